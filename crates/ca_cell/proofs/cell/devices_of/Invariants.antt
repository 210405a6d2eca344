use Rattle.std.proofs.Common.{◌≡◌, map, take}
use Rattle.ca_cell.specs.Raw.{device_of}
use Rattle.ca_cell.proofs.cell.devices_of.Given as goal

abbrev pub invariant-loop-device : goal.invariant-loop-device
invariant-loop-device l = l.devices ≡ map (device_of l.raw.pins) (take l.device-index l.device-items)
