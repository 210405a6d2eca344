use Rattle.ca_levels.specs.Given.{AreCarried}
use Rattle.ca_levels.proofs.levels.find_carried.Given as goal

abbrev pub invariant-loop-level : goal.invariant-loop-level
invariant-loop-level l = AreCarried l.level l.devices l.carried
