-- A subcircuit breaks one rule first.
use Rattle.std.proofs.Common.{ℕ, zero, suc, ◌≡◌, ◌<◌, ◌∙◌, refl, sym, ap, arith, List, [], ◌∷◌, take, Some}
use Rattle.std.proofs.Math.Decide.{dec_lt}
use Rattle.std.proofs.lemmas.Option.{same_Some}
use Rattle.std.proofs.lemmas.List.Elements.{All-head, All-tail}
use Rattle.std.specs.Prelude.{IsSome, IsSomeAnd, slice_get, option_and_then}
use Rattle.std.specs.List.{All}
use Rattle.ca_base.specs.First.{IsFirst}
use Rattle.ca_cell.specs.declared.raw.RawCell.{RawCell}
use Rattle.ca_cell.specs.declared.rule.CellRule.{CellRule}
use Rattle.ca_cell.specs.declared.rule.CellRule.TheVariants.{NoRail, TooManyDevices, TooManyNodes}
use Rattle.ca_cell.specs.declared.rule.CellRule.TheVariants.{TooManyInputs, NoOutput, TooManyOutputs}
use Rattle.ca_cell.specs.declared.rule.CellRule.TheVariants.{InputDrivesChannel}
use Rattle.ca_cell.specs.Rules.{channel_pin, DrivesChannel, Breaks, rank_of, IsFirstBroken}

-- an entry that has a property isn't before the first one
not_before : {T : Type 0} (P : T → Type 0) (xs : List T) (one other : ℕ) → IsSomeAnd (slice_get xs one) P
    → All (λ x. ¬ (P x)) (take other xs) → one < other → ⊥
not_before P [] one other here none before = here
not_before P (x ∷ xs) zero zero here none before = omega (arith, before)
not_before P (x ∷ xs) zero (suc other) here none before = All-head (λ y. ¬ (P y)) x (take other xs) none here
not_before P (x ∷ xs) (suc one) zero here none before = omega (arith, before)
not_before P (x ∷ xs) (suc one) (suc other) here none before =
    not_before P xs one other here (All-tail (λ y. ¬ (P y)) x (take other xs) none) (omega (arith, before))

-- the first is one alone
one_first : {T : Type 0} (P : T → Type 0) (xs : List T) (one other : ℕ) → IsFirst P xs one → IsFirst P xs other → one ≡ other
one_first P xs one other here there = elim (dec_lt one other) [
  | yes before ↦ absurd (not_before P xs one other here.here there.none_before before)
  | no not ↦ elim (dec_lt other one) [
    | yes following ↦ absurd (not_before P xs other one there.here here.none_before following)
    | no neither ↦ omega (arith, not, neither)
  ]
]

-- the device that drives its channel from an input pin is one, and so is the pin
one_driver : (raw : RawCell) (pin device other place : ℕ) → DrivesChannel raw pin device → DrivesChannel raw other place
    → (pin ≡ other) × (device ≡ place)
one_driver raw pin device other place here there =
    let same = one_first (λ d. IsSome (channel_pin raw.pins d)) raw.devices device place here.first there.first in
    let on_same : option_and_then (channel_pin raw.pins) (slice_get raw.devices place) ≡ Some pin = rw same at here.on in
    (same_Some pin other (sym on_same ∙ there.on), same)

-- two broken rules of one rank are one
same_rank : (raw : RawCell) (rule other : CellRule) → Breaks raw rule → Breaks raw other → rank_of rule ≡ rank_of other → rule ≡ other
same_rank raw NoRail NoRail here there same = refl
same_rank raw (TooManyDevices count) (TooManyDevices again) here there same = ap TooManyDevices (here.0 ∙ sym there.0)
same_rank raw (TooManyNodes count) (TooManyNodes again) here there same = ap TooManyNodes (here.0 ∙ sym there.0)
same_rank raw (TooManyInputs count) (TooManyInputs again) here there same = ap TooManyInputs (here.0 ∙ sym there.0)
same_rank raw NoOutput NoOutput here there same = refl
same_rank raw (TooManyOutputs count) (TooManyOutputs again) here there same = ap TooManyOutputs (here.0 ∙ sym there.0)
same_rank raw (InputDrivesChannel pin device) (InputDrivesChannel other place) here there same =
    let both = one_driver raw pin.0 device.0 other.0 place.0 here there in
    λ j. InputDrivesChannel (record { 0 = both.0 j }) (record { 0 = both.1 j })
same_rank raw rule other _ _ same = absurd (omega (arith, same))

-- the first rule that a subcircuit breaks is one
pub one_broken : (raw : RawCell) (rule other : CellRule) → IsFirstBroken raw rule → IsFirstBroken raw other → rule ≡ other
one_broken raw rule other here there = elim (dec_lt (rank_of rule) (rank_of other)) [
  | yes before ↦ absurd (there.none_before rule before here.broken)
  | no not ↦ elim (dec_lt (rank_of other) (rank_of rule)) [
    | yes following ↦ absurd (here.none_before other following there.broken)
    | no neither ↦ same_rank raw rule other here.broken there.broken (omega (arith, not, neither))
  ]
]
