use Rattle.std.proofs.Common.{◌<◌, get_or, arith}
use Rattle.ca_view.proofs.EndLemmas.{next_marked}
use Rattle.ca_view.proofs.ends.marks_of.Goals as goal

pub index_mut-requires : goal.index_mut-requires
index_mut-requires c =
    let below : get_or c.args.nets.now c.loop-net.net-index 0 < c.args.count = c.requires c.loop-net.net-index 0 c.loop-net-test.true in
    let room = c.loop-net.invariant.room in
    omega arith

pub loop-net-preserved : goal.loop-net-preserved
loop-net-preserved c =
    next_marked c.args.count c.args.nets.now c.loop-net.marks.items c.loop-net.net-index c.loop-net.invariant c.loop-net-test.true
    (c.requires c.loop-net.net-index 0 c.loop-net-test.true)
