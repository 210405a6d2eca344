use Rattle.std.proofs.Common.{◌≡◌, ◌-◌, find}
use Rattle.ca_cell.specs.List.{each_from, pin_open}
use Rattle.ca_cell.specs.Name.{is_called}
use Rattle.ca_cell.proofs.search.find_pin_open.Given as goal

abbrev pub invariant-loop-before : goal.invariant-loop-before
invariant-loop-before l =
    find (is_called l.cell l.text) (each_from pin_open 0 l.before-end)
    ≡ find (is_called l.cell l.text) (each_from pin_open l.before (l.before-end - l.before))
