use Rattle.std.proofs.Common.{◌+◌, ◌∙◌, arith, inr, sym, ap, length}
use Rattle.ca_flat.specs.Chip.{net_of}
use Rattle.ca_every_vector.proofs.RegionLemmas.{put_room, within_put}
use Rattle.ca_every_vector.proofs.region.evaluate.Goals as goal

pub loop-output-preserved : goal.loop-output-preserved
loop-output-preserved c =
    let core = c.args.chip.now.core in
    let on = c.pin_net.ensures ∙ ap (λ k. net_of core c.args.w (k + c.loop-output.output)) c.inputs_at-first.ensures in
    record {
      nets = put_room c.loop-output.values c.give.new.values c.pin_net.result (length c.args.chip.now.core.nets) _ c.loop-output.invariant.nets c.give.ensures;
      within = within_put c.args.chip.now.core c.args.inputs.now c.args.parts.now c.loop-output.values c.give.new.values c.pin_net.result _ c.loop-output.invariant.within
          (inr (record {
            part = c.args.w;
            output = c.loop-output.output;
            has = c.requires.has;
            known = c.requires.placed.known;
            within = (let less = c.loop-output-test.true in let e = c.outputs_at-output-end.ensures in omega arith);
            on = sym on;
          })) c.give.ensures;
      known = c.loop-output.invariant.known;
    }
