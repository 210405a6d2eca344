use Rattle.std.proofs.Common.{◌≡◌, ◌++◌, take}
use Rattle.ca_flat_text.specs.FlatText.{lines_from, device_line}
use Rattle.ca_flat_text.proofs.writing.push_devices.Given as goal

abbrev pub invariant-loop-k : goal.invariant-loop-k
invariant-loop-k l = l.text ≡ l.fn.text ++ lines_from device_line 0 (take l.k l.net.devices)
