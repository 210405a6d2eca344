use Rattle.std.proofs.Common.{◌≡◌, length}
use Rattle.ca_sweep.specs.code.Pinned.{AreKept, ArePinsMarked}
use Rattle.ca_sweep.proofs.pinned.mark_pins.Given as goal

abbrev pub invariant-loop-pin : goal.invariant-loop-pin
invariant-loop-pin l = record {
  marked : ArePinsMarked l.chip.core l.u l.pin l.marks.items;
  kept : AreKept l.fn.marks.items l.marks.items;
  room : length l.marks.items ≡ length l.chip.core.nets;
}
