use Rattle.std.proofs.Common.{◌≡◌, ◌<◌, length, slice_get}
use Rattle.std.specs.Prelude.{drop}
use Rattle.ca_cell.specs.Raw.{is_output}
use Rattle.ca_wiring.specs.Wiring.{names_with}
use Rattle.ca_link.proofs.names.library_output.Given as goal

abbrev pub invariant-loop-k : goal.invariant-loop-k
invariant-loop-k l =
    (slice_get (names_with is_output l.pins) l.pin ≡ slice_get (names_with is_output (drop l.k l.pins)) l.left)
    × (l.left < length (names_with is_output (drop l.k l.pins)))
