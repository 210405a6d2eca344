use Rattle.std.proofs.Common.{◌≡◌, ◌++◌, map, take}
use Rattle.ca_flat.specs.Chip.{cell_at}
use Rattle.ca_view.specs.Core.{core_of}
use Rattle.ca_merged.specs.Cluster.{seated}
use Rattle.ca_merge.proofs.seats.push_devices.Given as goal

abbrev pub invariant-loop-d : goal.invariant-loop-d
invariant-loop-d l =
    l.devices ≡ l.fn.devices ++ map (seated (core_of l.of.chip.now) l.of.members.now l.u.0) (take l.d (cell_at (core_of l.of.chip.now) l.u.0).devices)
