use Rattle.std.proofs.Common.{◌≡◌, take}
use Rattle.ca_pin_sets.specs.Resolved.{kept_devices}
use Rattle.ca_pin_sets.proofs.resolving.kept_devices.Given as goal

abbrev pub invariant-loop-device : goal.invariant-loop-device
invariant-loop-device l = l.devices ≡ kept_devices l.pins l.places (take l.device-index l.old)
