use Rattle.std.proofs.Common.{◌≡◌, ◌<◌, ℕ}
use Rattle.ca_planes.specs.Trits.{trit_in}
use Rattle.ca_block.specs.Limits.{source_lane}
use Rattle.ca_block.proofs.spread.gather.Given as goal

abbrev pub invariant-loop-lane : goal.invariant-loop-lane
invariant-loop-lane l = (k : ℕ) → k < l.lane → trit_in l.gathered k ≡ trit_in l.fn.values (source_lane l.fn.power l.fn.block k)
