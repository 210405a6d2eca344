-- A member whose devices are seated: only the proofs of the code cite this.
use Rattle.std.specs.Prelude.{ℕ, ◌≡◌, ◌<◌, ◌≤◌, ◌^◌, List, length, slice_index_or, if◌then◌else◌}
use Rattle.std.specs.List.{Contains}
use Rattle.ca_cell.specs.declared.rule.TheConstants.{MOST_NODES}
use Rattle.ca_cell.specs.Rules.{node_count}
use Rattle.ca_flat.specs.Flat.{inner_count}
use Rattle.ca_linked.specs.Linked.{LinkedChip}
use Rattle.ca_linked.specs.Paths.{mark_at}
use Rattle.ca_view.specs.Core.{core_of}
use Rattle.ca_merged.specs.Blocks.{block_start}
use Rattle.ca_merged.specs.Cluster.{cluster_cell}
use Rattle.ca_merged.specs.Merged.{AreMembers}
use Rattle.ca_merge.specs.declared.pins.ClusterNets.{ClusterNets}
use Rattle.ca_merge.specs.Draft.{AreGates}
use Rattle.ca_merge.specs.code.Pins.{AreClusterNets}

-- the node that the tables have for a net
abbrev pub seat_of : ClusterNets → ℕ → ℕ
seat_of nets net =
    if mark_at nets.driven net then slice_index_or nets.outputs.seats.items net 0
    else slice_index_or nets.inputs.seats.items net 0

-- the tables have one, and it fits
pub record HasSeat (nets : ClusterNets) (net : ℕ) : Type 0 where
  pub marked : net < length nets.driven
  pub output : net < length nets.outputs.seats.items
  pub input : net < length nets.inputs.seats.items
  pub fits : seat_of nets net < 2 ^ 32

-- library instances that may be merged, with the tables of their nets, as a cell that isn't too large
pub record AreSeated (chip : LinkedChip) (members : List ℕ) (nets : ClusterNets) : Type 0 where
  pub gates : AreGates chip members
  pub are : AreMembers (core_of chip) members
  pub tables : AreClusterNets chip members nets
  pub few : node_count (cluster_cell (core_of chip) members) ≤ MOST_NODES

-- u is one of them, and this many inner nodes are those of members before it
pub record IsInHand (chip : LinkedChip) (members : List ℕ) (nets : ClusterNets) (u start : ℕ) : Type 0 where
  pub seated : AreSeated chip members nets
  pub member : Contains members u
  pub before : start ≡ block_start (inner_count (core_of chip)) members u
