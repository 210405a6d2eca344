-- What is promised of verdicts on bridges is enough to report them.
use Rattle.std.proofs.Common.{◌≡◌, ℕ, ◌<◌, Bool, List, length, get_or, subst, arith}
use Rattle.std.specs.Prelude.{Option, Some, None, IsSomeAnd, slice_get}
use Rattle.std.proofs.lemmas.List.{length-map}
use Rattle.std.proofs.lemmas.Option.{slice_get-get_or}
use Rattle.ca_flat.specs.Chip.{Chip}
use Rattle.ca_flat.specs.Detection.{trits_of}
use Rattle.ca_merged.specs.Bridge.{BridgeDetectsAt}
use Rattle.ca_linked.specs.Linked.{outputs_of}
use Rattle.ca_view.specs.Core.{core_net, core_of}
use Rattle.ca_bridge_verdicts.specs.Bridges.{Ends}
use Rattle.ca_bridge_verdicts.specs.Good.{IsFirstBridgeOutput, IsFirstBridgeDetection}
use Rattle.ca_bridge_verdicts.specs.declared.verdict.BridgeVerdict.{BridgeVerdict}
use Rattle.ca_bridge_verdicts.specs.declared.verdict.BridgeVerdict.TheVariants.{Credited, Unexposable, Untestable, Aborted, Port, Wide}
use Rattle.ca_bridge_verdicts.specs.Promise.{ends_of}
use Rattle.ca_bridge_verdicts.proofs.BridgeLemmas.{some_at}
use Rattle.ca_chip_report.proofs.LawLemmas.{some_within}
use Rattle.ca_bridge_report.specs.BridgeReport.{IsWithin}
use Rattle.ca_bridge_report.specs.Laws.{GoodBridgesAreReported}

-- the output of a first detection is an observed one
output_within : (core : Chip) (ends : Ends) (pairs : List (List Bool)) (pair output : ℕ)
    → IsFirstBridgeDetection core ends pairs pair output → output < length core.outputs
output_within core ends pairs pair output first = by (slice_get pairs pair) first.first_output
  where
    by : (o : Option (List Bool)) → IsSomeAnd o (IsFirstBridgeOutput core ends output) → output < length core.outputs
    by None is = absurd is
    by (Some bits) is = some_within (BridgeDetectsAt core ends.instance ends.low ends.high (trits_of bits)) core.outputs output is.here

pub good_reported : GoodBridgesAreReported
good_reported chip budget bridges pairs aims verdicts known good = record {
  known = known;
  one_each = good.one_each;
  outputs = λ k d lt. within k (get_or verdicts k d) (slice_get-get_or verdicts k d lt) lt;
}
  where
    within : (k : ℕ) (verdict : BridgeVerdict) → slice_get verdicts k ≡ Some verdict → k < length verdicts
        → IsWithin (length (outputs_of chip)) verdict
    within k (Credited pair output) at lt =
        let one_each = good.one_each in
        let bridge = some_at bridges k (omega (arith, lt, one_each)) in
        subst (λ count. output < count) (length-map (outputs_of chip) (core_net chip))
        (output_within (core_of chip) (ends_of bridge.0) pairs pair output
        (good.credited k pair output bridge.0 (record { is_bridge = bridge.1; is_verdict = at })))
    within k Unexposable at lt = tt
    within k Untestable at lt = tt
    within k (Aborted code) at lt = tt
    within k Port at lt = tt
    within k (Wide rule) at lt = tt
