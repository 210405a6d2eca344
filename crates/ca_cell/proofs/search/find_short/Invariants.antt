use Rattle.std.proofs.Common.{◌≡◌, ◌-◌, find, length}
use Rattle.ca_cell.specs.Raw.{is_input, role_count, circuit_of}
use Rattle.ca_cell.specs.List.{each_from, shorts_of}
use Rattle.ca_cell.specs.Name.{is_called}
use Rattle.ca_cell.proofs.search.find_short.Given as goal

abbrev pub invariant-loop-low : goal.invariant-loop-low
invariant-loop-low l =
    find (is_called l.cell l.text) (each_from (shorts_of (length (circuit_of l.cell).nodes) (role_count is_input l.cell.pins)) 0 l.low-end)
    ≡ find (is_called l.cell l.text) (each_from (shorts_of (length (circuit_of l.cell).nodes) (role_count is_input l.cell.pins)) l.low (l.low-end - l.low))
