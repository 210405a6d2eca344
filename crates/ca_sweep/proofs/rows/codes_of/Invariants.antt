use Rattle.std.proofs.Common.{◌≡◌, length}
use Rattle.ca_flat.specs.Chip.{cell_at}
use Rattle.ca_view.specs.Linked.{place_in}
use Rattle.ca_view.specs.Places.{cell_number}
use Rattle.ca_sweep.specs.code.Faulty.{AreFaulty}
use Rattle.ca_sweep.specs.code.Rows.{AreCodes}
use Rattle.ca_sweep.proofs.rows.codes_of.Given as goal

abbrev pub invariant-loop-place : goal.invariant-loop-place
invariant-loop-place l = record {
  count : length l.codes.items ≡ l.place;
  codes : AreCodes (cell_at l.chip.core l.u) l.pins l.codes.items;
  faulty : AreFaulty l.chip.core (place_in l.chip.ranks) (cell_number l.chip.chip) l.faulty;
}
