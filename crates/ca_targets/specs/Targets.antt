-- What the bridges of a chip are as targets, and the clusters of which they are shorts, each different one
-- once.
use Rattle.std.specs.Prelude.{ℕ, ◌≡◌, ◌==◌, ◌<◌, if◌then◌else◌, List, [], ◌∷◌, map, length, slice_get}
use Rattle.std.specs.Prelude.{Option, Some, None}
use Rattle.std.specs.List.{All, AllPairs, Contains, flat_map, range_with_len}
use Rattle.ca_cell.specs.Rules.{KeepsRules}
use Rattle.ca_flat.specs.declared.chip_defect.ChipDefect.{ChipDefect}
use Rattle.ca_flat.specs.Chip.{IsDefectIn}
use Rattle.ca_linked.specs.Linked.{LinkedChip, IsLibrary}
use Rattle.ca_view.specs.Core.{core_of}
use Rattle.ca_merged.specs.Cluster.{cluster_cell}
use Rattle.ca_merge.specs.Merge.{IsMergedOf}
use Rattle.ca_cluster.specs.declared.bridge.Bridge.{Bridge}
use Rattle.ca_cluster.specs.Bridges.{IsKnown}
use Rattle.ca_cluster.specs.Clusters.{IsAtPort, IsOneNode, IsInside, IsWide, AreMembersOf, IsMergedFor}
use Rattle.ca_targets.specs.declared.target.Target.{Target}
use Rattle.ca_targets.specs.declared.target.Target.TheVariants.{Port, OneNode, Wide, Short}
use Rattle.ca_targets.specs.declared.target.Cluster.{Cluster}

-- these are bridges of library instances of the chip
abbrev pub AreKnown : LinkedChip → List Bridge → Type 0
AreKnown chip bridges = (bridge : Bridge) → Contains bridges bridge → IsKnown chip bridge

-- a defect of a library instance of the chip, so that it can be aimed at
pub record IsLibraryDefect (chip : LinkedChip) (defect : ChipDefect) : Type 0 where
  pub defect_is : IsDefectIn (core_of chip) defect
  pub library : IsLibrary chip defect.instance

-- the cluster's chip is the chip with its members as the last instance, of a cell that keeps the rules; it
-- has a short, and each is a defect of that instance
pub record IsCluster (chip : LinkedChip) (cluster : Cluster) : Type 0 where
  pub merged : IsMergedOf chip cluster.members cluster.chip cluster.last.0
  pub keeps : KeepsRules (cluster_cell (core_of chip) cluster.members)
  pub some : 0 < length cluster.shorts
  pub last : All (λ short. short.instance ≡ cluster.last.0) cluster.shorts
  pub shorts : All (IsLibraryDefect cluster.chip) cluster.shorts

-- the short at this place of the cluster with this number is the bridge: it is the short of the chip with the
-- members of the bridge's cluster as its last instance that stands for the bridge
pub record IsShortAt (chip : LinkedChip) (clusters : List Cluster) (bridge : Bridge) (number place : ℕ)
    : Type 0 where
  pub cluster : Cluster
  pub is_cluster : slice_get clusters number ≡ Some cluster
  pub short : ChipDefect
  pub is_short : slice_get cluster.shorts place ≡ Some short
  pub are : AreMembersOf chip bridge cluster.members
  pub merged : IsMergedFor chip bridge cluster.members cluster.chip short

-- what the bridge is as a target; each comes exactly where it says
abbrev pub IsTarget : LinkedChip → List Cluster → Bridge → Target → Type 0
IsTarget chip clusters bridge Port = IsAtPort (core_of chip) bridge
IsTarget chip clusters bridge OneNode =
    (IsAtPort (core_of chip) bridge → ⊥) × IsOneNode (core_of chip) bridge
IsTarget chip clusters bridge (Wide rule) = IsInside chip bridge × IsWide chip bridge rule
IsTarget chip clusters bridge (Short number place) =
    IsInside chip bridge × IsShortAt chip clusters bridge number place

-- the members of each cluster
abbrev pub members_of_each : List Cluster → List (List ℕ)
members_of_each clusters = map (λ cluster. cluster.members) clusters

-- the shorts of the cluster with this number; none past the last one
abbrev pub shorts_in : Option Cluster → List ChipDefect
shorts_in None = []
shorts_in (Some cluster) = cluster.shorts

abbrev pub shorts_at : List Cluster → ℕ → List ChipDefect
shorts_at clusters number = shorts_in (slice_get clusters number)

-- the place of the target among the shorts of the cluster with this number, if it is one of them
abbrev pub place_for : ℕ → Target → List ℕ
place_for number Port = []
place_for number OneNode = []
place_for number (Wide rule) = []
place_for number (Short cluster place) = if cluster == number then place ∷ [] else []

-- the places of these targets among the shorts of that cluster, in order
abbrev pub places_in : ℕ → List Target → List ℕ
places_in number targets = flat_map (place_for number) targets

-- There is one target for each bridge, in order, and it is what the bridge is. No two clusters have the same
-- members, and the shorts of each are exactly those of its bridges, each once, in order.
pub record AreTargetsOf (chip : LinkedChip) (bridges : List Bridge) (targets : List Target)
    (clusters : List Cluster) : Type 0 where
  pub one_each : length targets ≡ length bridges
  pub each : (k : ℕ) (bridge : Bridge) (target : Target) → slice_get bridges k ≡ Some bridge
      → slice_get targets k ≡ Some target → IsTarget chip clusters bridge target
  pub clusters_are : All (IsCluster chip) clusters
  pub apart : AllPairs (λ one other. one ≡ other → ⊥) (members_of_each clusters)
  pub exactly : (number : ℕ)
      → places_in number targets ≡ range_with_len 0 (length (shorts_at clusters number))
