use Rattle.std.proofs.Common.{◌≡◌, ◌+◌, ◌*◌, ◌≤◌, drop}
use Rattle.ca_flat.specs.Flat.{inner_count}
use Rattle.ca_view.specs.Core.{core_of}
use Rattle.ca_merged.specs.Blocks.{block_start}
use Rattle.ca_cluster.proofs.short.inner_before.Given as goal

abbrev pub invariant-loop-k : goal.invariant-loop-k
invariant-loop-k l = record {
  start : block_start (inner_count (core_of l.of.chip.now)) l.of.members.now l.u.0
      ≡ l.before + block_start (inner_count (core_of l.of.chip.now)) (drop l.k l.of.members.now) l.u.0;
  few : l.before ≤ 192 * l.k;
}
