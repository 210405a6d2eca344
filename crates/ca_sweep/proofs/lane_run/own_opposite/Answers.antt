use Rattle.std.proofs.Common.{◌≡◌, ◌+◌, arith, ap, refl, ◌∙◌, inl, inr, sym}
use Rattle.std.specs.Prelude.{slice_index}
use Rattle.std.proofs.lemmas.Bool.{cases_lt, lt-ltb}
use Rattle.ca_net.specs.State.{value_at}
use Rattle.ca_flat.specs.Chip.{net_of, output_net, inputs_at, outputs_at}
use Rattle.ca_sweep.specs.code.Lanes.{goods_in, trits_in}
use Rattle.ca_sweep.proofs.FirstLemmas.{lessened_more}
use Rattle.ca_sweep.proofs.SegmentLemmas.{not_itself}
use Rattle.ca_sweep.proofs.LaneLemmas.{trit_here}
use Rattle.ca_sweep.proofs.lane_run.own_opposite.Goals as goal

pub loop-output-preserved : goal.loop-output-preserved
loop-output-preserved c = λ lane unset.
    let core = c.args.chip.now.core in
    let inputs : c.inputs_at-pin.result ≡ inputs_at core c.args.w = c.inputs_at-pin.ensures in
    let outputs : c.outputs_at-output-end.result ≡ outputs_at core c.args.w = c.outputs_at-output-end.ensures in
    let on = c.linked.ensures.linked.is_chip.on_nets c.args.w (c.inputs_at-pin.result + c.loop-output.output) c.requires.placed.known (omega arith) in
    let at = c.pin_net-net.ensures in
    let goods_count = c.requires.nets in
    let ones_count = c.requires.same in
    let net_is : c.pin_net-net.result ≡ output_net core c.args.w c.loop-output.output = c.pin_net-net.ensures ∙ ap (λ k. net_of core c.args.w (k + c.loop-output.output)) inputs in
    let both = c.with_changed-seen_here.ensures lane unset in
    let was = c.loop-output.invariant lane both.0 in (
      was.0,
      lessened_more core (goods_in c.args.goods.now lane) (value_at (trits_in c.args.ones.now lane)) c.args.firsts.now c.requires.firsts c.args.w c.loop-output.output c.pin_net-net.result
          c.args.count c.args.count c.args.count net_is (omega arith) was.1 (omega arith)
          (λ opposite. elim (cases_lt (slice_index c.args.firsts.now c.pin_net-net.result) c.args.count) [
            | inl observed ↦ absurd (not_itself (goods_in c.args.goods.now lane c.pin_net-net.result) (value_at (trits_in c.args.ones.now lane) c.pin_net-net.result) opposite
                (trit_here c.args.ones.now lane c.pin_net-net.result (omega arith) ∙ both.1 (lt-ltb (slice_index c.args.firsts.now c.pin_net-net.result) c.args.count observed)
                ∙ sym (trit_here c.args.goods.now lane c.pin_net-net.result (omega arith))))
            | inr unobserved ↦ unobserved
          ]) (inl refl),
    )
