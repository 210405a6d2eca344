use Rattle.std.proofs.Common.{sym, subst, arith, length}
use Rattle.ca_net.specs.declared.trit.Trit.TheVariants.{Zero}
use Rattle.ca_view.specs.Linked.{place_in}
use Rattle.ca_view.specs.Places.{cell_number}
use Rattle.ca_every_vector.specs.code.Sure.{IsSure}
use Rattle.ca_every_vector.proofs.RegionLemmas.{put_room}
use Rattle.ca_every_vector.proofs.SureLemmas.{sure_input, sure_put}
use Rattle.ca_every_vector.proofs.sure.mark_inputs.Goals as goal

pub loop-input-preserved : goal.loop-input-preserved
loop-input-preserved c =
    let core = c.args.chip.now.core in
    record {
      nets = put_room c.loop-input.values c.set.new.self c.input.result (length c.args.chip.now.core.nets) Zero c.loop-input.invariant.nets c.set.ensures;
      sure = sure_put c.args.chip.now.core c.loop-input.values c.set.new.self c.input.result Zero c.loop-input.invariant.sure
          (λ formed. subst (IsSure c.args.chip.now.core) (sym c.input.ensures)
          (sure_input core (place_in c.args.chip.now.ranks) (cell_number c.args.chip.now.chip) c.linked.ensures.linked c.linked.ensures.pinned formed c.loop-input.input
          (let less = c.loop-input-test.true in let e = c.input_count-input-end.ensures in omega arith)))
          c.set.ensures;
    }
