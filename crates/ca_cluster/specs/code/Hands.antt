-- A merged chip in hand, with what it was made of: only the proofs of the code cite this.
use Rattle.std.specs.Prelude.{ℕ, List}
use Rattle.ca_cell.specs.Rules.{KeepsRules}
use Rattle.ca_linked.specs.Linked.{LinkedChip}
use Rattle.ca_view.specs.Core.{core_of}
use Rattle.ca_merged.specs.Cluster.{cluster_cell}
use Rattle.ca_merged.specs.Merged.{AreMembers}
use Rattle.ca_merge.specs.Draft.{AreGates}
use Rattle.ca_merge.specs.Merge.{IsMergedOf}

-- the instances are of the library, may be merged, and as the one instance of the merged chip keep the rules
pub record IsInHand (chip : LinkedChip) (members : List ℕ) (made : LinkedChip) (last : ℕ) : Type 0 where
  pub gates : AreGates chip members
  pub are : AreMembers (core_of chip) members
  pub keeps : KeepsRules (cluster_cell (core_of chip) members)
  pub merged : IsMergedOf chip members made last
