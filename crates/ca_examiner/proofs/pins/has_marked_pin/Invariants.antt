use Rattle.std.proofs.Common.{ℕ, ◌+◌, ◌<◌}
use Rattle.ca_flat.specs.Chip.{net_of}
use Rattle.ca_examiner.specs.code.Marks.{IsMarked}
use Rattle.ca_examiner.proofs.pins.has_marked_pin.Given as goal

abbrev pub invariant-loop-pin : goal.invariant-loop-pin
invariant-loop-pin l = (k : ℕ) → k < l.pin → IsMarked l.marks (net_of l.chip.core l.u (l.pins.from + k)) → ⊥
