use Rattle.std.proofs.Common.{take}
use Rattle.ca_targets.specs.Targets.{AreTargetsOf}
use Rattle.ca_targets.proofs.listing.targets.Given as goal

abbrev pub invariant-loop-k : goal.invariant-loop-k
invariant-loop-k l = AreTargetsOf l.chip (take l.k l.bridges) l.all.targets l.all.clusters.items
