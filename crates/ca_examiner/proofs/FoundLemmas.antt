-- What last values say of detections, as the check of a certificate asks for them.
use Rattle.std.proofs.Common.{◌≡◌, ℕ, zero, suc, ◌<◌, ◌≤◌, List, [], ◌∷◌, length, refl, sym, ◌∙◌, subst, arith}
use Rattle.std.proofs.Common.{Some, None, Option, get_or}
use Rattle.std.specs.Prelude.{IsSomeAnd, slice_get}
use Rattle.std.proofs.lemmas.List.{get_or-take, length-take-le}
use Rattle.std.proofs.lemmas.Option.{slice_get-get_or}
use Rattle.ca_net.specs.declared.trit.Trit.{Trit}
use Rattle.ca_places.specs.declared.place_set.PlaceSet.{PlaceSet}
use Rattle.ca_flat.specs.declared.chip_defect.ChipDefect.{ChipDefect}
use Rattle.ca_flat.specs.Chip.{Chip}
use Rattle.ca_flat.specs.Pair.{DetectsAt, IsShown}
use Rattle.ca_sweep.specs.declared.seen.Seen.TheVariants.{Nowhere, At}
use Rattle.ca_sweep.specs.Found.{IsUndetectedBefore, IsNextFound, IsFound}
use Rattle.ca_read_code.specs.Examined.{Examined}
use Rattle.ca_cert.specs.Tested.{IsDetectingOutput}
use Rattle.ca_cert.specs.Listed.{IsLook, IsNextToLook}

-- an entry of a list is the same whatever stands in for those past its end
entry_is : {T : Type 0} (xs : List T) (k : ℕ) (d e : T) → k < length xs → get_or xs k d ≡ get_or xs k e
entry_is [] k d e within = absurd (omega arith)
entry_is (x ∷ xs) zero d e within = refl
entry_is (x ∷ xs) (suc k) d e within = entry_is xs k d e (omega arith)

-- what is detected at no output isn't shown
not_shown : (chip : Chip) (defect : ChipDefect) (pair : List Trit) → IsUndetectedBefore chip defect pair (length chip.outputs)
    → IsShown chip defect pair → ⊥
not_shown chip defect pair none shown =
    let place = shown.observed.0 in
    let within = shown.observed.1 in
    none place within (subst (λ (net : ℕ). DetectsAt chip defect pair net)
    (sym shown.observed.2 ∙ entry_is chip.outputs place shown.output 0 within) shown.detects)

-- what is detected at an output, and at none before it, is first detected there
pub found_first : (chip : Chip) (defect : ChipDefect) (pair : List Trit) (output : ℕ) → IsFound chip defect pair (At output)
    → IsDetectingOutput chip defect pair (Some output)
found_first chip defect pair output is = record {
  here = subst (λ (o : Option ℕ). IsSomeAnd o (DetectsAt chip defect pair)) (sym (slice_get-get_or chip.outputs output 0 is.0)) is.1;
  none_before = λ k d lt detects.
      let below : k < output = (let l = length-take-le output chip.outputs (let le : output ≤ length chip.outputs = (let w = is.0 in omega arith) in le) in omega arith) in
      is.2 k below (subst (DetectsAt chip defect pair)
      (get_or-take output chip.outputs k d below ∙ entry_is chip.outputs k d 0 (let w = is.0 in omega arith)) detects);
}

pub found_none : (chip : Chip) (defect : ChipDefect) (pair : List Trit) → IsFound chip defect pair Nowhere
    → IsDetectingOutput chip defect pair None
found_none chip defect pair none = not_shown chip defect pair none

-- the next place that is found is the next to look at
pub next_is : (examined : Examined) (defects : List ChipDefect) (set : PlaceSet) (from : ℕ) (next : Option ℕ)
    → IsNextFound examined.chip defects examined.pair set from next → IsNextToLook examined defects set from next
next_is examined defects set from None is = λ place past has defect at.
    not_shown examined.chip defect examined.pair (is place past has defect at)
next_is examined defects set from (Some next) is = (
  is.0,
  is.1,
  λ place past lt has defect at.
      not_shown examined.chip defect examined.pair (is.2 place past lt has defect at),
)

-- a look at the defect at a place of the list
pub look_is : (examined : Examined) (defects : List ChipDefect) (place : ℕ) (defect : ChipDefect) (output : Option ℕ)
    → slice_get defects place ≡ Some defect → IsDetectingOutput examined.chip defect examined.pair output
    → IsLook examined defects place output
look_is examined defects place defect output at is other other_at =
    subst (λ (d : ChipDefect). IsDetectingOutput examined.chip d examined.pair output)
    (let same : Some defect ≡ Some other = sym at ∙ other_at in cc) is
