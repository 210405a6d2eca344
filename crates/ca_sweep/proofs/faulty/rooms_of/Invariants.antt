use Rattle.ca_view.specs.Linked.{place_in}
use Rattle.ca_sim.specs.code.Cells.{AreRoomsTo}
use Rattle.ca_view.specs.Places.{cell_number}
use Rattle.ca_sweep.proofs.faulty.rooms_of.Given as goal

abbrev pub invariant-loop-number : goal.invariant-loop-number
invariant-loop-number l = AreRoomsTo l.chip.core (place_in l.chip.ranks) (cell_number l.chip.chip) l.number l.rooms.items
