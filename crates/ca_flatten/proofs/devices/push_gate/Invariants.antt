use Rattle.std.proofs.Common.{◌≡◌, ◌++◌}
use Rattle.ca_view.specs.Core.{core_of}
use Rattle.ca_flatten.specs.code.Kept.{first_devices}
use Rattle.ca_flatten.proofs.devices.push_gate.Given as goal

abbrev pub invariant-loop-d : goal.invariant-loop-d
invariant-loop-d l = l.devices ≡ l.fn.devices ++ first_devices (core_of l.chip) l.defect l.spot.instance.0 l.d
