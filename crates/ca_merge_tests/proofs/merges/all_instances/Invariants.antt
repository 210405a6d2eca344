use Rattle.std.proofs.Common.{◌≡◌, ℕ, ◌<◌}
use Rattle.std.specs.List.{range_with_len}
use Rattle.ca_linked.specs.Linked.{IsLibrary}
use Rattle.ca_merge_tests.proofs.merges.all_instances.Given as goal

abbrev pub invariant-loop-k : goal.invariant-loop-k
invariant-loop-k l = record {
  list : l.list ≡ range_with_len 0 l.k;
  gates : (w : ℕ) → w < l.k → IsLibrary l.chip w;
}
