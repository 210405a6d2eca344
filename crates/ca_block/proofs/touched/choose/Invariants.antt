use Rattle.ca_block.specs.code.Touched.{AreChosenTo}
use Rattle.ca_block.proofs.touched.choose.Given as goal

abbrev pub invariant-loop-i : goal.invariant-loop-i
invariant-loop-i l = AreChosenTo l.devices l.homes l.marks l.i l.count l.chosen
