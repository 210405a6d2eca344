use Rattle.std.proofs.Common.{◌≡◌, ◌-◌, find}
use Rattle.ca_cell.specs.Raw.{is_input, role_count}
use Rattle.ca_cell.specs.List.{each_from, short_of}
use Rattle.ca_cell.specs.Name.{is_called}
use Rattle.ca_cell.proofs.search.find_short_of.Given as goal

abbrev pub invariant-loop-high : goal.invariant-loop-high
invariant-loop-high l =
    find (is_called l.cell l.text) (each_from (short_of (role_count is_input l.cell.pins) l.low) 0 l.high-end)
    ≡ find (is_called l.cell l.text) (each_from (short_of (role_count is_input l.cell.pins) l.low) l.high (l.high-end - l.high))
