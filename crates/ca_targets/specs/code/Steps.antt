-- One target more: only the proofs of the code cite this.
use Rattle.std.specs.Prelude.{ℕ, ◌≡◌, ◌⊎◌, List, [], ◌∷◌, ◌++◌, length, slice_get, slice_set, Option, Some}
use Rattle.std.specs.List.{All}
use Rattle.ca_cell.specs.Rules.{KeepsRules}
use Rattle.ca_flat.specs.declared.chip_defect.ChipDefect.{ChipDefect}
use Rattle.ca_linked.specs.Linked.{LinkedChip}
use Rattle.ca_view.specs.Core.{core_of}
use Rattle.ca_flatten.specs.Few.{IsFew}
use Rattle.ca_merged.specs.Cluster.{cluster_cell}
use Rattle.ca_merge.specs.Merge.{IsMergedOf}
use Rattle.ca_cluster.specs.declared.bridge.Bridge.{Bridge}
use Rattle.ca_cluster.specs.Bridges.{IsKnown}
use Rattle.ca_cluster.specs.Clusters.{IsAtPort, IsOneNode, IsInside, IsWide, AreMembersOf, IsMergedFor}
use Rattle.ca_targets.specs.declared.target.Target.{Target}
use Rattle.ca_targets.specs.declared.target.Target.TheVariants.{Port, OneNode, Wide, Short}
use Rattle.ca_targets.specs.declared.target.Cluster.{Cluster}

-- no flat network of the chip is too large
abbrev pub AreFew : LinkedChip → Type 0
AreFew chip = (given : Option ChipDefect) → IsFew (core_of chip) given

-- a bridge that has two ends, none at a port, of a chip of which no flat network is too large
pub record IsInner (chip : LinkedChip) (bridge : Bridge) : Type 0 where
  pub known : IsKnown chip bridge
  pub inside : IsInside chip bridge
  pub few : AreFew chip

-- the cluster's chip has the members as its last instance
pub record IsMade (chip : LinkedChip) (cluster : Cluster) : Type 0 where
  pub merged : IsMergedOf chip cluster.members cluster.chip cluster.last.0
  pub keeps : KeepsRules (cluster_cell (core_of chip) cluster.members)

-- it is the cluster of the bridge
pub record IsFor (chip : LinkedChip) (bridge : Bridge) (cluster : Cluster) : Type 0 where
  pub are : AreMembersOf chip bridge cluster.members
  pub made : IsMade chip cluster

-- the same cluster with one short more, which is the bridge
pub record Joins (chip : LinkedChip) (bridge : Bridge) (old new : Cluster) (place : ℕ) : Type 0 where
  pub for : IsFor chip bridge old
  pub short : ChipDefect
  pub merged : IsMergedFor chip bridge old.members old.chip short
  pub place_is : place ≡ length old.shorts
  pub new_is : new ≡ record old { shorts = old.shorts ++ short ∷ [] }

-- the bridge is the last short of a cluster that was there
pub record IsJoined (chip : LinkedChip) (bridge : Bridge) (old : List Cluster) (number place : ℕ)
    (new : List Cluster) : Type 0 where
  pub before : Cluster
  pub at : slice_get old number ≡ Some before
  pub after : Cluster
  pub joins : Joins chip bridge before after place
  pub new_is : new ≡ slice_set old number after

-- the bridge is the one short of a new cluster, with whose members there was none
pub record IsOpened (chip : LinkedChip) (bridge : Bridge) (old : List Cluster) (number place : ℕ)
    (new : List Cluster) : Type 0 where
  pub before : Cluster
  pub none : before.shorts ≡ []
  pub after : Cluster
  pub joins : Joins chip bridge before after place
  pub apart : All (λ one. one.members ≡ before.members → ⊥) old
  pub last : number ≡ length old
  pub new_is : new ≡ old ++ after ∷ []

-- what the bridge is as a target, and what becomes of the clusters
abbrev pub Steps : LinkedChip → Bridge → List Cluster → Target → List Cluster → Type 0
Steps chip bridge old Port new = IsAtPort (core_of chip) bridge × (new ≡ old)
Steps chip bridge old OneNode new =
    (IsAtPort (core_of chip) bridge → ⊥) × IsOneNode (core_of chip) bridge × (new ≡ old)
Steps chip bridge old (Wide rule) new = IsInside chip bridge × IsWide chip bridge rule × (new ≡ old)
Steps chip bridge old (Short number place) new = IsInside chip bridge
    × (IsJoined chip bridge old number place new ⊎ IsOpened chip bridge old number place new)

-- one target more
pub record IsNext (chip : LinkedChip) (bridge : Bridge) (old : List Target) (old_clusters : List Cluster)
    (new : List Target) (new_clusters : List Cluster) : Type 0 where
  pub target : Target
  pub steps : Steps chip bridge old_clusters target new_clusters
  pub new_is : new ≡ old ++ target ∷ []
