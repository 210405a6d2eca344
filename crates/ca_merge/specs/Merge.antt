-- Merging library instances of a linked chip into one.
use Rattle.std.specs.Prelude.{ℕ, ◌≡◌, ◌<◌, List, length}
use Rattle.ca_cell.specs.Rules.{IsFirstBroken}
use Rattle.ca_linked.specs.Linked.{LinkedChip, IsWired}
use Rattle.ca_view.specs.Core.{core_of}
use Rattle.ca_merged.specs.Cluster.{cluster_cell}
use Rattle.ca_merged.specs.Merged.{AreMembers, merged, cluster_place}
use Rattle.ca_merge.specs.declared.cell.MergeFault.{MergeFault}
use Rattle.ca_merge.specs.declared.cell.MergeFault.TheVariants.{Rule, NoMemory}
use Rattle.ca_merge.specs.Draft.{merged_draft, AreGates}

-- library instances in netlist order, one at least, with every instance on a chain between two of them
pub record CanMerge (chip : LinkedChip) (members : List ℕ) : Type 0 where
  pub gates : AreGates chip members
  pub some : 0 < length members
  pub are : AreMembers (core_of chip) members

-- a wired chip that is the merged one, whose last instance is the cluster's; its core is the core's merged
-- chip
pub record IsMergedOf (chip : LinkedChip) (members : List ℕ) (made : LinkedChip) (u : ℕ) : Type 0 where
  pub is : made ≡ record (merged_draft chip members) { order = made.order }
  pub wired : IsWired made
  pub place : u ≡ cluster_place (core_of chip) members
  pub core : core_of made ≡ merged (core_of chip) members

-- why instances aren't merged: the first rule that their cluster's cell breaks; or there was no memory
abbrev pub IsCause : LinkedChip → List ℕ → MergeFault → Type 0
IsCause chip members (Rule rule) = IsFirstBroken (cluster_cell (core_of chip) members) rule
IsCause chip members NoMemory = Unit {0}
