use Rattle.std.proofs.Common.{◌≡◌, ◌++◌, take}
use Rattle.std.specs.List.{flat_map}
use Rattle.ca_spice.specs.Writing.{device_line}
use Rattle.ca_spice.proofs.writing.push_devices.Given as goal

abbrev pub invariant-loop-device : goal.invariant-loop-device
invariant-loop-device l =
    l.text ≡ l.fn.text ++ flat_map (device_line l.p_bulk l.n_bulk l.nets) (take l.device-index l.devices)
