use Rattle.ca_view.specs.Linked.{place_in}
use Rattle.ca_sweep.specs.Tables.{AreAtPlaces}
use Rattle.ca_sweep.proofs.cells.order_of.Given as goal

abbrev pub invariant-loop-u : goal.invariant-loop-u
invariant-loop-u l = AreAtPlaces l.chip.core (place_in l.chip.ranks) l.u l.order.items
