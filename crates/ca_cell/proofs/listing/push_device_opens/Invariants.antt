use Rattle.std.proofs.Common.{◌≡◌, ◌++◌}
use Rattle.ca_cell.specs.Raw.{circuit_of}
use Rattle.ca_cell.specs.List.{each_from, device_opens}
use Rattle.ca_cell.proofs.listing.push_device_opens.Given as goal

abbrev pub invariant-loop-place : goal.invariant-loop-place
invariant-loop-place l = l.list ≡ l.initial.list ++ each_from (device_opens (circuit_of l.cell).devices) 0 l.place
