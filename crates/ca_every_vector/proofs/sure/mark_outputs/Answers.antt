use Rattle.std.proofs.Common.{◌+◌, ◌∙◌, sym, ap, subst, arith, length}
use Rattle.ca_net.specs.declared.trit.Trit.TheVariants.{Zero}
use Rattle.ca_flat.specs.Chip.{net_of}
use Rattle.ca_every_vector.specs.code.Sure.{IsSure}
use Rattle.ca_every_vector.proofs.RegionLemmas.{put_room}
use Rattle.ca_every_vector.proofs.SureLemmas.{sure_put}
use Rattle.ca_every_vector.proofs.sure.mark_outputs.Goals as goal

pub loop-output-preserved : goal.loop-output-preserved
loop-output-preserved c =
    let core = c.args.chip.now.core in
    let on = c.pin_net.ensures ∙ ap (λ k. net_of core c.args.w (k + c.loop-output.output)) c.inputs_at-first.ensures in
    record {
      nets = put_room c.loop-output.values c.set.new.self c.pin_net.result (length c.args.chip.now.core.nets) Zero c.loop-output.invariant.nets c.set.ensures;
      sure = sure_put c.args.chip.now.core c.loop-output.values c.set.new.self c.pin_net.result Zero c.loop-output.invariant.sure
          (λ formed. subst (IsSure c.args.chip.now.core) (sym on)
          (c.requires.outputs formed c.loop-output.output (let less = c.loop-output-test.true in let e = c.outputs_at-output-end.ensures in omega arith)))
          c.set.ensures;
    }
