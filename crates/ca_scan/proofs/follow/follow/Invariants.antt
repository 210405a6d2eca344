use Rattle.std.proofs.Common.{◌+◌, ◌-◌, length}
use Rattle.ca_scan.specs.code.Kept.{IsFollowed}
use Rattle.ca_scan.proofs.follow.follow.Given as goal

abbrev pub invariant-steps : goal.invariant-steps
invariant-steps l = IsFollowed l.chip l.fn.start.0 l.chain l.net.0

abbrev pub decreases-steps : goal.decreases-steps
decreases-steps l = length l.chip.parts + 1 - length l.chain
