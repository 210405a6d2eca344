use Rattle.std.proofs.Common.{arith}
use Rattle.ca_examiner.proofs.OpenLemmas.{open_more}
use Rattle.ca_examiner.proofs.open_nets.mark_open.Goals as goal

pub loop-net-preserved : goal.loop-net-preserved
loop-net-preserved g c = open_more (g.V.NetWaves.seen c.args.waves.now) c.loop-net.net c.loop-net.marks.items c.good.result c.faulty.result
    c.is_closed-closed.result (omega (arith, c.loop-net-test.true, c.loop-net.invariant.size, c.len-net-end.ensures, c.requires, c.args.marks.now.ok)) c.loop-net.invariant c.good.ensures c.faulty.ensures c.is_closed-closed.ensures
