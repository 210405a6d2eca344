use Rattle.std.proofs.Common.{◌≡◌, take}
use Rattle.std.specs.List.{sum_by}
use Rattle.ca_flat.specs.Flat.{inner_count}
use Rattle.ca_view.specs.Core.{core_of}
use Rattle.ca_merged.specs.Cluster.{seated_devices}
use Rattle.ca_merge.proofs.seats.devices_of.Given as goal

abbrev pub invariant-loop-k : goal.invariant-loop-k
invariant-loop-k l = record {
  devices : l.devices ≡ seated_devices (core_of l.of.chip.now) l.of.members.now (take l.k l.of.members.now);
  start : l.start ≡ sum_by (inner_count (core_of l.of.chip.now)) (take l.k l.of.members.now);
}
