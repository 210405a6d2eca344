-- Laws of the clusters of bridges, for code that merges each different cluster once.
use Rattle.std.specs.Prelude.{ℕ, ◌≡◌, List, Option}
use Rattle.ca_cell.specs.Rules.{KeepsRules}
use Rattle.ca_flat.specs.declared.chip_defect.ChipDefect.{ChipDefect}
use Rattle.ca_linked.specs.Linked.{LinkedChip, IsWired}
use Rattle.ca_view.specs.Core.{core_of}
use Rattle.ca_flatten.specs.Few.{IsFew}
use Rattle.ca_merged.specs.Cluster.{cluster_cell}
use Rattle.ca_merged.specs.Bridge.{short_of}
use Rattle.ca_merge.specs.Merge.{CanMerge, IsMergedOf}
use Rattle.ca_cluster.specs.declared.bridge.Bridge.{Bridge}
use Rattle.ca_cluster.specs.Bridges.{IsKnown}
use Rattle.ca_cluster.specs.Clusters.{AreMembersOf, IsInside, IsMergedFor}

-- the members of the cluster of a bridge that has two ends, none at a port, may be merged
abbrev pub MembersCanMerge : Type 0
MembersCanMerge =
    (chip : LinkedChip) (bridge : Bridge) (members : List ℕ) → IsWired chip → IsKnown chip bridge
    → IsInside chip bridge → AreMembersOf chip bridge members → CanMerge chip members

-- the merged chip and the short of its last instance that is the bridge stand for the chip and the bridge,
-- if no flat network of the chip is too large
abbrev pub MergedIsFor : Type 0
MergedIsFor =
    (chip : LinkedChip) (bridge : Bridge) (members : List ℕ) (made : LinkedChip) (short : ChipDefect)
    → IsWired chip → IsKnown chip bridge → IsInside chip bridge → AreMembersOf chip bridge members
    → ((given : Option ChipDefect) → IsFew (core_of chip) given)
    → IsMergedOf chip members made short.instance → KeepsRules (cluster_cell (core_of chip) members)
    → short ≡ short_of (core_of chip) members bridge.instance.0 bridge.m.0 bridge.n.0
    → IsMergedFor chip bridge members made short
