use Rattle.ca_examiner.proofs.StandingLemmas.{alike_more}
use Rattle.ca_examiner.proofs.standing.is_settled.Goals as goal

pub loop-net-preserved : goal.loop-net-preserved
loop-net-preserved g c =
    alike_more (g.V.NetWaves.seen c.args.waves.now) c.args.outputs.now _ _ _ _ _ c.loop-net-test.true
    c.loop-net.invariant c.good.ensures c.faulty.ensures c.are_alike.ensures c.if-not-are_alike.false
