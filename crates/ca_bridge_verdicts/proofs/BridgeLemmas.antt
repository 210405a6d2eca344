-- Verdicts on shorts of chips that stand in, as verdicts on bridges.
use Rattle.std.proofs.Common.{◌≡◌, ℕ, zero, suc, ◌*◌, ◌<◌, ◌↔◌, List, [], ◌∷◌, length, Bool, refl, sym, ◌∙◌, ap, subst, arith, get_or, take, Option, Some, None}
use Rattle.std.specs.Prelude.{IsSomeAnd, slice_get}
use Rattle.std.specs.List.{Contains}
use Rattle.std.proofs.lemmas.List.{get_or-take, length-take}
use Rattle.std.proofs.lemmas.List.Elements.{Contains-get_or, All-weaker}
use Rattle.std.proofs.lemmas.Option.{slice_get_within, get_or_from_slice_get}
use Rattle.ca_base.specs.First.{IsFirst}
use Rattle.ca_flat.specs.declared.chip_defect.ChipDefect.{ChipDefect}
use Rattle.ca_flat.specs.Chip.{Chip, IsChip}
use Rattle.ca_flat.specs.Pair.{DetectsAt}
use Rattle.ca_flat.specs.Detection.{trits_of}
use Rattle.ca_credit.specs.declared.verdict.Verdict.{Verdict}
use Rattle.ca_credit.specs.declared.verdict.Verdict.TheVariants.{Credited, Untestable, Aborted}
use Rattle.ca_credit.specs.Defects.{Task, StandsIn}
use Rattle.ca_credit.specs.Detection.{Detects, IsFirstOutput}
use Rattle.ca_credit.specs.Good.{HasVerdict}
use Rattle.ca_merged.specs.Bridge.{BridgeDetectsAt}
use Rattle.ca_bridge_verdicts.specs.Bridges.{Ends, IsForBridge, AreForBridges}
use Rattle.ca_bridge_verdicts.specs.Good.{DetectsBridge, IsFirstBridgeOutput, HasBridgeVerdict}
use Rattle.ca_bridge_verdicts.specs.Laws.{BridgesAreTargets, GoodTargetsAreBridges}

contains_at : {A : Type 0} (xs : List A) (k : ℕ) (x : A) → slice_get xs k ≡ Some x → Contains xs x
contains_at xs k x e = (k, slice_get_within xs k x e, get_or_from_slice_get xs k x x e)

pub some_at : {A : Type 0} (xs : List A) (k : ℕ) → k < length xs → (x : A) × (slice_get xs k ≡ Some x)
some_at [] k lt = absurd (omega (arith, lt))
some_at (x ∷ xs) zero lt = (x, refl)
some_at (x ∷ xs) (suc k) lt = some_at xs k (omega (arith, lt))

-- what holds of an entry
some_map : {A : Type 0} (P Q : A → Type 0) (o : Option A) → ((x : A) → o ≡ Some x → P x → Q x) → IsSomeAnd o P → IsSomeAnd o Q
some_map P Q None f h = h
some_map P Q (Some x) f h = f x refl h

-- the first that has a property, where the list's entries have another exactly where they have that
first_map : {A : Type 0} (P Q : A → Type 0) (xs : List A) (k : ℕ) → ((x : A) → Contains xs x → P x ↔ Q x) → IsFirst P xs k → IsFirst Q xs k
first_map {A} P Q xs k same first = record {
  here = some_map P Q (slice_get xs k) (λ x e p. (same x (contains_at xs k x e)).0 p) first.here;
  none_before = λ i d lt q.
      let l = length-take k xs in
      let ik : i < k = omega arith in
      let il : i < length xs = omega arith in
      let e : get_or (take k xs) i d ≡ get_or xs i d = get_or-take k xs i d ik in
      let p : P (get_or xs i d) = (same (get_or xs i d) (Contains-get_or xs i d il)).1 (subst Q e q) in
      first.none_before i d lt (subst P (sym e) p);
}

-- a chip whose short is for a bridge
module _ (chip : Chip) (rank : ℕ → ℕ) (ends : Ends) (made : Chip) (short : ChipDefect) (is : IsChip chip rank) (for : IsForBridge chip ends made short) where
  stands_in : StandsIn chip made
  stands_in = record {
    inputs = for.same_inputs;
    outputs = for.same_outputs;
    good = λ pair net v observed. for.good pair net v (is.observed net observed);
  }

  detects_into : (pair : List Bool) → Detects made short pair → DetectsBridge chip ends pair
  detects_into pair shown =
      let observed : Contains chip.outputs shown.output = subst (λ xs. Contains xs shown.output) for.same_outputs shown.observed in record {
        output = shown.output;
        observed = observed;
        detects = (for.detects (trits_of pair) shown.output (is.observed shown.output observed)).1 shown.detects;
      }

  detects_back : (pair : List Bool) → DetectsBridge chip ends pair → Detects made short pair
  detects_back pair shown = record {
    output = shown.output;
    observed = subst (λ xs. Contains xs shown.output) (sym for.same_outputs) shown.observed;
    detects = (for.detects (trits_of pair) shown.output (is.observed shown.output shown.observed)).0 shown.detects;
  }

  output_into : (output : ℕ) (pair : List Bool) → IsFirstOutput made short output pair → IsFirstBridgeOutput chip ends output pair
  output_into output pair first =
      first_map (DetectsAt made short (trits_of pair)) (BridgeDetectsAt chip ends.instance ends.low ends.high (trits_of pair)) chip.outputs output
      (λ net observed. let same = for.detects (trits_of pair) net (is.observed net observed) in (same.1, same.0))
      (subst (λ xs. IsFirst (DetectsAt made short (trits_of pair)) xs output) for.same_outputs first)

pub targets_lem : BridgesAreTargets
targets_lem task rank bridges is are place within =
    let one_each = are.one_each in
    let ends = some_at bridges place (omega (arith, one_each, within)) in
    let short = some_at task.defects place within in
    stands_in task.chip rank ends.0 (task.chip_of place) short.0 is (are.each place ends.0 short.0 ends.1 short.1)

-- the short at the place of a bridge that has a verdict
record IsAtBridge (task : Task) (verdicts : List Verdict) (place : ℕ) (ends : Ends) (verdict : Verdict) : Type 0 where
  short : ChipDefect
  has : HasVerdict task verdicts place short verdict
  for : IsForBridge task.chip ends (task.chip_of place) short

at_bridge : (task : Task) (bridges : List Ends) (verdicts : List Verdict) (place : ℕ) (ends : Ends) (verdict : Verdict)
    → AreForBridges task bridges → HasBridgeVerdict bridges verdicts place ends verdict → IsAtBridge task verdicts place ends verdict
at_bridge task bridges verdicts place ends verdict are has =
    let one_each = are.one_each in
    let within = slice_get_within bridges place ends has.is_bridge in
    let short = some_at task.defects place (omega (arith, one_each, within)) in record {
      short = short.0;
      has = record { is_defect = short.1; is_verdict = has.is_verdict };
      for = are.each place ends short.0 has.is_bridge short.1;
    }

pub good_lem : GoodTargetsAreBridges
good_lem task rank bridges pairs aims verdicts is are good = record {
  one_each = good.one_each ∙ are.one_each;
  credited = λ place pair output ends has.
      let at = at_bridge task bridges verdicts place ends (Credited pair output) are has in
      let made = task.chip_of place in
      let first = good.credited place pair output at.short at.has in
      record {
        first_pair = first_map (Detects made at.short) (DetectsBridge task.chip ends) pairs pair
            (λ x listed. (detects_into task.chip rank ends made at.short is at.for x, detects_back task.chip rank ends made at.short is at.for x))
            first.first_pair;
        first_output = some_map (IsFirstOutput made at.short output) (IsFirstBridgeOutput task.chip ends output) (slice_get pairs pair)
            (λ x e here. output_into task.chip rank ends made at.short is at.for output x here) first.first_output;
      };
  untestable = λ place ends has pair sized shown.
      let at = at_bridge task bridges verdicts place ends Untestable are has in
      good.untestable place at.short at.has pair (sized ∙ ap (λ (xs : List ℕ). 2 * length xs) (sym at.for.same_inputs))
      (detects_back task.chip rank ends (task.chip_of place) at.short is at.for pair shown);
  undetected = λ place ends code has.
      let at = at_bridge task bridges verdicts place ends (Aborted code) are has in
      All-weaker (λ x. ¬ (Detects (task.chip_of place) at.short x)) (λ x. ¬ (DetectsBridge task.chip ends x))
      (λ x none shown. none (detects_back task.chip rank ends (task.chip_of place) at.short is at.for x shown)) pairs
      (good.aborted place at.short code at.has).undetected;
}
