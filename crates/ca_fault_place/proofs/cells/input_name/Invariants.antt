use Rattle.std.proofs.Common.{◌≡◌, slice_get}
use Rattle.std.specs.Prelude.{drop}
use Rattle.ca_cell.specs.Raw.{is_input}
use Rattle.ca_wiring.specs.Wiring.{names_with}
use Rattle.ca_fault_place.proofs.cells.input_name.Given as goal

abbrev pub invariant-loop-k : goal.invariant-loop-k
invariant-loop-k l =
    slice_get (names_with is_input l.pins) l.place ≡ slice_get (names_with is_input (drop l.k l.pins)) l.left
