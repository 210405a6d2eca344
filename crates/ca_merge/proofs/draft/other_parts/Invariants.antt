use Rattle.std.proofs.Common.{◌≡◌, map, not}
use Rattle.std.specs.List.{filter, range_with_len}
use Rattle.ca_merged.specs.Cluster.{is_member}
use Rattle.ca_merge.specs.Draft.{part_of}
use Rattle.ca_merge.proofs.draft.other_parts.Given as goal

abbrev pub invariant-loop-k : goal.invariant-loop-k
invariant-loop-k l = l.parts.items ≡ map (part_of l.chip) (filter (λ u. not (is_member l.members u)) (range_with_len 0 l.k))
