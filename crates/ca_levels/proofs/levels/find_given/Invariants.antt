use Rattle.ca_levels.specs.Given.{AreGiven}
use Rattle.ca_levels.proofs.levels.find_given.Given as goal

abbrev pub invariant-loop-level : goal.invariant-loop-level
invariant-loop-level l = AreGiven l.level l.own l.given
