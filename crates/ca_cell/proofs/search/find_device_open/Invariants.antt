use Rattle.std.proofs.Common.{◌≡◌, ◌-◌, find}
use Rattle.ca_cell.specs.Raw.{circuit_of}
use Rattle.ca_cell.specs.List.{each_from, device_opens}
use Rattle.ca_cell.specs.Name.{is_called}
use Rattle.ca_cell.proofs.search.find_device_open.Given as goal

abbrev pub invariant-loop-place : goal.invariant-loop-place
invariant-loop-place l =
    find (is_called l.cell l.text) (each_from (device_opens (circuit_of l.cell).devices) 0 l.place-end)
    ≡ find (is_called l.cell l.text) (each_from (device_opens (circuit_of l.cell).devices) l.place (l.place-end - l.place))
