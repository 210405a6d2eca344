use Rattle.std.proofs.Common.{◌-◌}
use Rattle.ca_sweep.proofs.LaneLemmas.{IsPartedFrom}
use Rattle.ca_sweep.proofs.lane_masks.part.Given as goal

abbrev pub invariant-loop-back : goal.invariant-loop-back
invariant-loop-back l = IsPartedFrom l.one l.count (l.count - l.back) l.fn.masks.items l.masks.items
