use Rattle.ca_view.specs.Linked.{place_in}
use Rattle.ca_confined.specs.code.Drivers.{AreDriversTo}
use Rattle.ca_confined.proofs.drivers.drivers_of.Given as goal

abbrev pub invariant-loop-u : goal.invariant-loop-u
invariant-loop-u l = AreDriversTo l.chip.core (place_in l.chip.ranks) l.u l.drivers.items
