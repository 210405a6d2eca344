use Rattle.std.proofs.Common.{◌≡◌, take}
use Rattle.ca_cell.proofs.raw.copy_devices.Given as goal

abbrev pub invariant-loop-device : goal.invariant-loop-device
invariant-loop-device l = l.devices ≡ take l.device-index l.device-items
