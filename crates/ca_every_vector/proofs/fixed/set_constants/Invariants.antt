use Rattle.std.proofs.Common.{◌-◌, length, drop}
use Rattle.ca_every_vector.specs.code.Fixed.{AreFixedBy}
use Rattle.ca_every_vector.proofs.fixed.set_constants.Given as goal

abbrev pub invariant-loop-k : goal.invariant-loop-k
invariant-loop-k l = AreFixedBy (drop (l.count - l.k) l.chip.core.constants) (length l.chip.core.nets) l.values
