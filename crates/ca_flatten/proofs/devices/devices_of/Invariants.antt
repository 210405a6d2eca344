use Rattle.std.proofs.Common.{◌≡◌, ◌+◌}
use Rattle.ca_flat.specs.Flat.{inner_before, devices_before}
use Rattle.ca_view.specs.Core.{core_of}
use Rattle.ca_flatten.proofs.devices.devices_of.Given as goal

abbrev pub invariant-loop-u : goal.invariant-loop-u
invariant-loop-u l = record {
  devices : l.devices ≡ devices_before (core_of l.chip) l.defect l.u;
  inner : l.inner ≡ l.first + inner_before (core_of l.chip) l.u;
}
