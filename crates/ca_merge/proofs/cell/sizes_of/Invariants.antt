use Rattle.std.proofs.Common.{◌≡◌, ◌≤◌, ◌*◌, length, take}
use Rattle.std.specs.List.{sum_by}
use Rattle.ca_flat.specs.Chip.{cell_at}
use Rattle.ca_flat.specs.Flat.{inner_count}
use Rattle.ca_view.specs.Core.{core_of}
use Rattle.ca_merge.proofs.cell.sizes_of.Given as goal

abbrev pub invariant-loop-k : goal.invariant-loop-k
invariant-loop-k l = record {
  devices : l.devices ≡ sum_by (λ u. length (cell_at (core_of l.of.chip.now) u).devices) (take l.k l.of.members.now);
  inner : l.inner ≡ sum_by (inner_count (core_of l.of.chip.now)) (take l.k l.of.members.now);
  few_devices : l.devices ≤ 192 * l.k;
  few_inner : l.inner ≤ 192 * l.k;
}
