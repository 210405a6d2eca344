use Rattle.ca_examiner.specs.code.OpenNets.{AreOpenTo}
use Rattle.ca_examiner.proofs.open_nets.mark_open.Given as goal

abbrev pub invariant-loop-net : goal.invariant-loop-net
invariant-loop-net g l = AreOpenTo (g.V.NetWaves.seen l.waves) l.net l.marks.items
