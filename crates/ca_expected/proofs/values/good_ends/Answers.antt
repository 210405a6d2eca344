use Rattle.std.proofs.Common.{arith}
use Rattle.ca_expected.proofs.PushLemmas.{end_more, ends_all}
use Rattle.ca_expected.proofs.values.good_ends.Goals as goal

pub loop-output-preserved : goal.loop-output-preserved
loop-output-preserved g c =
    end_more (g.S.Simulator.task c.args.sim.now).chip (g.S.Simulator.bits c.args.sim.now) c.loop-output.output c.good_end.result
    c.loop-output.values c.push.new.self c.loop-output.invariant c.good_end.ensures c.in_ok-push.ensures.ok

pub returns : goal.returns
returns g c =
    ends_all (g.S.Simulator.task c.args.sim.now).chip (g.S.Simulator.bits c.args.sim.now) c.loop-output.output c.loop-output.values
    c.loop-output.invariant (omega arith)
