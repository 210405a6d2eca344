use Rattle.std.proofs.Common.{◌≡◌, ◌-◌, length}
use Rattle.ca_sweep.proofs.laned_finder.gather.Given as goal

abbrev pub invariant-spans : goal.invariant-spans
invariant-spans l = l.lanes ≡ l.fn.lanes

abbrev pub decreases-spans : goal.decreases-spans
decreases-spans l = length l.defects.list - l.at
