use Rattle.std.proofs.Common.{take}
use Rattle.ca_make.specs.code.Kept.{AreLoads}
use Rattle.ca_make.proofs.loads.loads.Given as goal

abbrev pub invariant-loop-gate : goal.invariant-loop-gate
invariant-loop-gate l = AreLoads (take l.gate-index l.gates) l.candidates l.loads.items
