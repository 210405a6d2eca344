use Rattle.ca_levels.specs.code.Advance.{AreLinked}
use Rattle.ca_levels.proofs.advance.link_all.Given as goal

abbrev pub invariant-loop-i : goal.invariant-loop-i
invariant-loop-i l = AreLinked l.i l.devices l.from l.fn.kind l.fn.level l.links
