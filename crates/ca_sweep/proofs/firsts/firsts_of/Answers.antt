use Rattle.std.proofs.Common.{◌-◌, ◌<◌, get_or, refl, arith}
use Rattle.ca_sweep.proofs.FirstLemmas.{firsts_more}
use Rattle.ca_sweep.proofs.firsts.firsts_of.Goals as goal

pub put_at-requires : goal.put_at-requires
put_at-requires c =
    let some = c.outputs-test.true in
    let before = c.outputs.invariant.within in
    let known : get_or c.args.outputs.now (c.outputs.left - 1) 0 < c.args.nets = c.requires (c.outputs.left - 1) 0 (omega arith) in
    let room = c.outputs.invariant.are.room in
    omega arith

pub outputs-preserved : goal.outputs-preserved
outputs-preserved c =
    let some = c.outputs-test.true in
    let before = c.outputs.invariant.within in
    record {
      within = omega arith;
      are = firsts_more c.args.outputs.now c.args.nets c.outputs.left (c.outputs.left - 1) (get_or c.args.outputs.now (c.outputs.left - 1) 0) c.outputs.firsts.items
          c.put_at.new.firsts.items (omega arith) refl (c.requires (c.outputs.left - 1) 0 (omega arith)) c.put_at.ensures c.outputs.invariant.are;
    }
