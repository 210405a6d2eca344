-- When the ends of the good and the faulty chip show a detection, and which output is the first.
use Rattle.std.proofs.Common.{◌≡◌, ℕ, zero, suc, ◌+◌, ◌<◌, ◌≤◌, List, [], ◌∷◌, length, Bool, refl, sym, ◌∙◌}
use Rattle.std.proofs.Common.{ap, subst, arith, Some, None, Option, get_or}
use native.Mathlib.Decide.{ℕ_discrete}
use Rattle.std.specs.Prelude.{◌≢◌, IsTrue, IsSomeAnd, slice_get, slice_index}
use Rattle.std.specs.List.{Contains}
use Rattle.std.proofs.lemmas.List.{get_or-take, length-take-le}
use Rattle.std.proofs.lemmas.Option.{slice_get-get_or}
use Rattle.ca_base.specs.First.{IsFirst}
use Rattle.ca_net.specs.declared.trit.Trit.{Trit}
use Rattle.ca_net.specs.declared.trit.Trit.TheVariants.{X}
use Rattle.ca_cell.specs.Exposes.{opposite_of}
use Rattle.ca_flat.specs.declared.chip_defect.ChipDefect.{ChipDefect}
use Rattle.ca_flat.specs.Chip.{Chip}
use Rattle.ca_flat.specs.Pair.{DetectsAt, IsShown}
use Rattle.ca_credit.specs.Defects.{Task, StandsIn, AreTargets, IsOfOneChip}
use Rattle.ca_credit.specs.Detection.{IsNetEnd, IsAnswer}

-- the answer for these outputs
abbrev pub IsAnswerOver : List ℕ → Chip → ChipDefect → List Trit → Option ℕ → Type 0
IsAnswerOver outputs chip defect pair None = (output : ℕ) → output < length outputs
    → ¬ (DetectsAt chip defect pair (slice_index outputs output))
IsAnswerOver outputs chip defect pair (Some output) = (output < length outputs)
    × DetectsAt chip defect pair (slice_index outputs output)
    × ((before : ℕ) → before < output → ¬ (DetectsAt chip defect pair (slice_index outputs before)))

over_own : (chip : Chip) (defect : ChipDefect) (pair : List Trit) (answer : Option ℕ)
    → IsAnswerOver chip.outputs chip defect pair answer → IsAnswer chip defect pair answer
over_own chip defect pair None is = is
over_own chip defect pair (Some output) is = record { within = is.0; here = is.1; none_before = is.2 }

-- a chip stands in for itself
pub stands_in_itself : (chip : Chip) → StandsIn chip chip
stands_in_itself chip = record { inputs = refl; outputs = refl; good = λ pair net v observed. ((λ ends. ends), (λ ends. ends)) }

-- so the defects of one chip are targets
pub own_targets : (task : Task) → IsOfOneChip task → AreTargets task
own_targets task one place within = subst (λ (of : ℕ → Chip). StandsIn task.chip (of place)) (sym one) (stands_in_itself task.chip)

-- what is so of the chip of a defect, of that chip
pub in_chip : (task : Task) (P : Chip → Type 0) (place : ℕ) → IsOfOneChip task → P (task.chip_of place) → P task.chip
in_chip task P place one holds = subst (λ (of : ℕ → Chip). P (of place)) one holds

-- the outputs of a chip that stands in for another are its own
pub answer_stands_in : (chip other : Chip) (defect : ChipDefect) (pair : List Trit) (answer : Option ℕ) → StandsIn chip other
    → IsAnswerOver chip.outputs other defect pair answer → IsAnswer other defect pair answer
answer_stands_in chip other defect pair answer stands is =
    over_own other defect pair answer (subst (λ outputs. IsAnswerOver outputs other defect pair answer) (sym stands.outputs) is)

-- where the good end is definite, the faulty one decides
pub detects_by : (chip other : Chip) (defect : ChipDefect) (aimed : Option ChipDefect) (pair : List Trit) (net : ℕ) (good faulty : Trit) (b : Bool)
    → StandsIn chip other → Contains chip.outputs net
    → aimed ≡ Some defect → IsNetEnd chip None pair net good → IsNetEnd other aimed pair net faulty → (good ≢ X) → (opposite_of good ≢ X)
    → (IsTrue b → faulty ≡ opposite_of good) → (faulty ≡ opposite_of good → IsTrue b)
    → (IsTrue b → DetectsAt other defect pair net) × (DetectsAt other defect pair net → IsTrue b)
detects_by chip other defect aimed pair net good faulty b stands observed at good_is faulty_is known opposite there back =
    let faulty_here : IsNetEnd other (Some defect) pair net faulty = subst (λ (o : Option ChipDefect). IsNetEnd other o pair net faulty) at faulty_is in (
      λ t. record {
        value = good;
        good = (stands.good pair net good observed).0 ((good_is good).0 (known, refl));
        faulty = (faulty_here (opposite_of good)).0 (opposite, there t);
      },
      λ d.
          let g = (good_is d.value).1 ((stands.good pair net d.value observed).1 d.good) in
          back (((faulty_here (opposite_of d.value)).1 d.faulty).1 ∙ ap opposite_of (sym g.1)),
    )

-- where the good end isn't known there is no detection
pub nothing_detected : (chip other : Chip) (defect : ChipDefect) (pair : List Trit) (net : ℕ) → StandsIn chip other → Contains chip.outputs net
    → IsNetEnd chip None pair net X → DetectsAt other defect pair net → ⊥
nothing_detected chip other defect pair net stands observed is detects =
    let g = (is detects.value).1 ((stands.good pair net detects.value observed).1 detects.good) in g.0 (sym g.1)

-- what is read within a list doesn't depend on what is answered past it
pub get_or-other : {T : Type 0} (xs : List T) (k : ℕ) (d e : T) → k < length xs → get_or xs k d ≡ get_or xs k e
get_or-other [] k d e within = absurd (omega arith)
get_or-other (x ∷ xs) zero d e within = refl
get_or-other (x ∷ xs) (suc k) d e within = get_or-other xs k d e (omega arith)

-- where none of the first `count` has a property, and the next one doesn't either, none of one more has it
pub none_more : (P : ℕ → Type 0) (count : ℕ) → ((k : ℕ) → k < count → P k → ⊥) → (P count → ⊥)
    → (k : ℕ) → k < count + 1 → P k → ⊥
none_more P count before last k below has = elim (ℕ_discrete k count) [
  | yes e ↦ last (subst P e has)
  | no differ ↦ before k (let far : k ≡ count → ⊥ = differ in omega arith) has
]

-- where none before it has the property, it is the first
pub first_by : {T : Type 0} (P : T → Type 0) (xs : List T) (d : T) (k : ℕ) → k < length xs → P (get_or xs k d)
    → ((i : ℕ) → i < k → P (get_or xs i d) → ⊥) → IsFirst P xs k
first_by {T} P xs d k within here before = record {
  here = subst (λ (o : Option T). IsSomeAnd o P) (sym (slice_get-get_or xs k d within)) here;
  none_before = λ i e lt p. let below : i < k = omega (arith, length-take-le k xs (let le : k ≤ length xs = omega arith in le)) in
      before i below (subst P (get_or-take k xs i e below ∙ get_or-other xs i e d (omega arith)) p);
}

-- where none has it at all, the defect isn't shown
pub not_shown_by : (chip : Chip) (defect : ChipDefect) (pair : List Trit)
    → ((i : ℕ) → i < length chip.outputs → DetectsAt chip defect pair (slice_index chip.outputs i) → ⊥) → IsShown chip defect pair → ⊥
not_shown_by chip defect pair none shown =
    let place = shown.observed.0 in
    let within = shown.observed.1 in
    none place within (subst (λ (net : ℕ). DetectsAt chip defect pair net)
    (sym shown.observed.2 ∙ get_or-other chip.outputs place shown.output 0 within) shown.detects)

-- the entry at the first place is in the list
contained : {T : Type 0} (xs : List T) (P : T → Type 0) (k : ℕ) → IsSomeAnd (slice_get xs k) P → (x : T) × Contains xs x × P x
contained [] P k here = absurd here
contained (x ∷ xs) P zero here = (x, (0, omega arith, refl), here)
contained (x ∷ xs) P (suc k) here =
    let found = contained xs P k here in
    (found.0, (suc found.1.0, (let lt : found.1.0 < length xs = found.1.1 in omega arith), found.1.2), found.2)

-- a first output at which the defect is detected shows it
pub shown_by_first : (chip : Chip) (defect : ChipDefect) (pair : List Trit) (output : ℕ)
    → IsFirst (DetectsAt chip defect pair) chip.outputs output → IsShown chip defect pair
shown_by_first chip defect pair output first =
    let found = contained chip.outputs (DetectsAt chip defect pair) output first.here in
    record { output = found.0; observed = found.1; detects = found.2 }
