-- Places that are passed over: the pair detects no defect at them.
use Rattle.std.proofs.Common.{◌≡◌, ℕ, zero, suc, ◌<◌, ◌≤◌, ◌+◌, List, [], ◌∷◌, length, refl, subst, sym, inl, inr, ◌∙◌, arith}
use Rattle.std.specs.Prelude.{slice_get, None, Some}
use Rattle.std.specs.List.{All}
use Rattle.std.proofs.lemmas.Bool.{cases_lt}
use Rattle.std.proofs.lemmas.Option.{slice_get_within, get_or_from_slice_get, same_Some}
use Rattle.ca_net.specs.declared.trit.Trit.{Trit}
use Rattle.ca_flat.specs.declared.chip_defect.ChipDefect.{ChipDefect}
use Rattle.ca_flat.specs.Chip.{Chip}
use Rattle.ca_places.specs.declared.place_set.PlaceSet.{PlaceSet}
use Rattle.ca_places.specs.PlaceSet.{Has, IsNext}
use Rattle.ca_view.specs.Linked.{IsPlaced, IsPlacedDefect}
use Rattle.ca_sweep.specs.Spans.{AreOfInstance}
use Rattle.ca_sweep.specs.Found.{IsUndetectedBefore, IsUndetectedAt}

-- an entry of a list has what all have
pub entry_has : {A : Type 0} (P : A → Type 0) (xs : List A) (k : ℕ) (x : A) → slice_get xs k ≡ Some x → All P xs → P x
entry_has P xs k x at all = subst P (get_or_from_slice_get xs k x x at) (all k x (slice_get_within xs k x at))

-- the defect at a place is undetected where the one that is there is
undetected_here : (chip : Chip) (defects : List ChipDefect) (pair : List Trit) (place : ℕ) (defect : ChipDefect) → slice_get defects place ≡ Some defect
    → IsUndetectedBefore chip defect pair (length chip.outputs) → IsUndetectedAt chip defects pair place
undetected_here chip defects pair place defect at none other other_at =
    subst (λ (d : ChipDefect). IsUndetectedBefore chip d pair (length chip.outputs)) (same_Some defect other (sym at ∙ other_at)) none

-- so it is at all places before the next one
pub undetected_one : (chip : Chip) (defects : List ChipDefect) (pair : List Trit) (place : ℕ) (defect : ChipDefect) → slice_get defects place ≡ Some defect
    → IsUndetectedBefore chip defect pair (length chip.outputs) → (k : ℕ) → place ≤ k → k < place + 1 → IsUndetectedAt chip defects pair k
undetected_one chip defects pair place defect at none k after before =
    subst (IsUndetectedAt chip defects pair) (let e : place ≡ k = omega arith in e) (undetected_here chip defects pair place defect at none)

-- places up to an end are passed over, and all before them that aren't in the set
pub passed_to : (chip : Chip) (defects : List ChipDefect) (pair : List Trit) (set : PlaceSet) (from at place end : ℕ)
    → ((k : ℕ) → from ≤ k → k < at → Has set k → IsUndetectedAt chip defects pair k) → IsNext set at (Some place)
    → ((k : ℕ) → place ≤ k → k < end → Has set k → IsUndetectedAt chip defects pair k)
    → (k : ℕ) → from ≤ k → k < end → Has set k → IsUndetectedAt chip defects pair k
passed_to chip defects pair set from at place end before next none k after below has = elim (cases_lt k at) [
  | inl low ↦ before k after low has
  | inr high ↦ elim (cases_lt k place) [
    | inl less ↦ absurd (next.2 k high less has)
    | inr past ↦ none k (omega arith) below has
  ]
]

-- up to the next place of the set
pub passed_before : (chip : Chip) (defects : List ChipDefect) (pair : List Trit) (set : PlaceSet) (from at place : ℕ)
    → ((k : ℕ) → from ≤ k → k < at → Has set k → IsUndetectedAt chip defects pair k) → IsNext set at (Some place)
    → (k : ℕ) → from ≤ k → k < place → Has set k → IsUndetectedAt chip defects pair k
passed_before chip defects pair set from at place before next k after below has = elim (cases_lt k at) [
  | inl low ↦ before k after low has
  | inr high ↦ absurd (next.2 k high below has)
]

-- and where the set has no further place
pub passed_all : (chip : Chip) (defects : List ChipDefect) (pair : List Trit) (set : PlaceSet) (from at : ℕ)
    → ((k : ℕ) → from ≤ k → k < at → Has set k → IsUndetectedAt chip defects pair k) → IsNext set at None
    → (k : ℕ) → from ≤ k → Has set k → IsUndetectedAt chip defects pair k
passed_all chip defects pair set from at before next k after has = elim (cases_lt k at) [
  | inl low ↦ before k after low has
  | inr high ↦ absurd (next k high has)
]

-- a list has an entry at each place within it
pub with_entry : {A B : Type 0} (xs : List A) (k : ℕ) → k < length xs → ((x : A) → slice_get xs k ≡ Some x → B) → B
with_entry [] k below go = absurd (omega arith)
with_entry (x ∷ xs) zero below go = go x refl
with_entry (x ∷ xs) (suc k) below go = with_entry xs k (omega arith) go

-- the instance of a span has a place where the defects may be aimed at
pub span_placed : (chip : Chip) (place_of : ℕ → ℕ) (defects : List ChipDefect) (place start end instance : ℕ) → place < length defects
    → start ≤ place → place < end → AreOfInstance defects start end instance → All (IsPlacedDefect chip place_of) defects → IsPlaced chip place_of instance
span_placed chip place_of defects place start end instance within after before are placed =
    with_entry defects place within (λ defect at.
    let one = entry_has (IsPlacedDefect chip place_of) defects place defect at placed in
    subst (IsPlaced chip place_of) (are.each place defect after before at) (record { known = one.defect_is.known; placed = one.placed }))
