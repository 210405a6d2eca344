use Rattle.ca_view.specs.Linked.{place_in}
use Rattle.ca_confined.specs.code.Drivers.{AreDriversAt}
use Rattle.ca_confined.proofs.drivers.note_outputs.Given as goal

abbrev pub invariant-loop-output : goal.invariant-loop-output
invariant-loop-output l = AreDriversAt l.chip.core (place_in l.chip.ranks) l.u l.output l.drivers
