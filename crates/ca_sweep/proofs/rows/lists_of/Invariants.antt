use Rattle.ca_view.specs.Linked.{place_in}
use Rattle.ca_view.specs.Places.{cell_number}
use Rattle.ca_sweep.specs.code.Rows.{AreListsTo}
use Rattle.ca_sweep.proofs.rows.lists_of.Given as goal

abbrev pub invariant-loop-number : goal.invariant-loop-number
invariant-loop-number l = AreListsTo l.chip.core (place_in l.chip.ranks) (cell_number l.chip.chip) l.number l.lists.items
