-- Laws of merged chips.
use Rattle.std.specs.Prelude.{ℕ, ◌+◌, ◌≡◌, ◌<◌, ◌^◌, ◌↔◌, Bool, List, length, None, Some}
use Rattle.ca_net.specs.declared.trit.Trit.{Trit}
use Rattle.ca_net.specs.Circuit.{Circuit, IsWellFormed}
use Rattle.ca_cell.specs.declared.rule.CellRule.TheVariants.{NoOutput}
use Rattle.ca_cell.specs.Rules.{KeepsAllBut}
use Rattle.ca_flat.specs.Chip.{Chip, IsChip, count_of}
use Rattle.ca_flat.specs.Flat.{flat, place}
use Rattle.ca_flat.specs.Pair.{NetEndsAt, DetectsAt}
use Rattle.ca_flat.specs.Waves.{IsFlatChip}
use Rattle.ca_renumber.specs.Renumbered.{IsRenumbered}
use Rattle.ca_merged.specs.Cluster.{cluster_cell}
use Rattle.ca_merged.specs.Merged.{AreMembers, merged}
use Rattle.ca_merged.specs.Members.{AreClusterMembers, IsDrivenEnd, AreBridgeMarks, marked_instances}
use Rattle.ca_merged.specs.Bridge.{IsBridge, bridged, BridgeEndsAt, BridgeDetectsAt, HoldsBridge, short_of}

-- a merged chip whose cluster breaks no rule of a cell is a chip, in which no chain returns either
abbrev pub MergedIsChip : Type 0
MergedIsChip =
    (chip : Chip) (rank : ℕ → ℕ) (members : List ℕ) → IsChip chip rank → AreMembers chip members
    → KeepsAllBut NoOutput (cluster_cell chip members)
    → (new_rank : ℕ → ℕ) × IsChip (merged chip members) new_rank

-- the network f is c renumbered, in which the first nodes keep their numbers
pub record IsRenumberedPast (base : ℕ) (c f : Circuit) : Type 0 where
  pub number : ℕ → ℕ
  pub renumbered : IsRenumbered c f number
  pub kept : (x : ℕ) → x < base → number x ≡ x

-- the flat network of the merged chip is the chip's: power, ground and the nets keep their numbers
abbrev pub MergedFlatIsRenumbered : Type 0
MergedFlatIsRenumbered =
    (chip : Chip) (rank : ℕ → ℕ) (members : List ℕ) → IsChip chip rank → AreMembers chip members
    → KeepsAllBut NoOutput (cluster_cell chip members)
    → IsRenumberedPast (2 + length chip.nets) (flat chip None) (flat (merged chip members) None)

-- the flat network of the merged chip with the short is the chip's with the bridge
abbrev pub ShortIsBridge : Type 0
ShortIsBridge =
    (chip : Chip) (rank : ℕ → ℕ) (members : List ℕ) (u m n : ℕ) → IsChip chip rank → IsBridge chip u m n
    → HoldsBridge chip members u m n
    → IsRenumberedPast (2 + length chip.nets) (bridged chip u m n)
    (flat (merged chip members) (Some (short_of chip members u m n)))

-- the flat network with a bridge is a network where it has room for one device more
abbrev pub BridgedIsWellFormed : Type 0
BridgedIsWellFormed =
    (chip : Chip) (rank : ℕ → ℕ) (u m n : ℕ) → IsChip chip rank → IsBridge chip u m n
    → length (flat chip None).nodes < 2 ^ 32 → length (flat chip None).devices + 1 < 2 ^ 32
    → IsWellFormed (bridged chip u m n)

-- the merged chip with its short, for the chip with the bridge: both its flat networks end at each net as the
-- chip's do without and with the bridge
pub record StandsFor (chip : Chip) (members : List ℕ) (u m n : ℕ) : Type 0 where
  pub rank : ℕ → ℕ
  pub flat_chip : IsFlatChip (merged chip members) rank (short_of chip members u m n)
  pub same_inputs : (merged chip members).inputs ≡ chip.inputs
  pub same_outputs : (merged chip members).outputs ≡ chip.outputs
  pub good : (pair : List Trit) (net : ℕ) (v : Trit) → net < length chip.nets
      → NetEndsAt chip None pair net v ↔ NetEndsAt (merged chip members) None pair net v
  pub faulty : (pair : List Trit) (net : ℕ) (v : Trit) → net < length chip.nets
      → BridgeEndsAt chip u m n pair net v
      ↔ NetEndsAt (merged chip members) (Some (short_of chip members u m n)) pair net v
  pub detects : (pair : List Trit) (net : ℕ) → net < length chip.nets
      → BridgeDetectsAt chip u m n pair net
      ↔ DetectsAt (merged chip members) (short_of chip members u m n) pair net

-- so a merged chip stands for the chip with the bridge
abbrev pub MergedStandsFor : Type 0
MergedStandsFor =
    (chip : Chip) (rank : ℕ → ℕ) (members : List ℕ) (u m n : ℕ) → IsChip chip rank → IsBridge chip u m n
    → IsWellFormed (bridged chip u m n) → HoldsBridge chip members u m n → StandsFor chip members u m n

-- the cluster of a bridge holds it, where each input pin among its ends is on a net that an instance drives
abbrev pub ClusterHoldsBridge : Type 0
ClusterHoldsBridge =
    (chip : Chip) (rank : ℕ → ℕ) (members : List ℕ) (u m n : ℕ) → IsChip chip rank → IsBridge chip u m n
    → AreClusterMembers chip u m n members → IsDrivenEnd chip u m → IsDrivenEnd chip u n
    → (place chip u m ≡ place chip u n → ⊥) → KeepsAllBut NoOutput (cluster_cell chip members)
    → HoldsBridge chip members u m n

-- a bridge has one cluster
abbrev pub ClusterIsOne : Type 0
ClusterIsOne =
    (chip : Chip) (u m n : ℕ) (members others : List ℕ) → AreClusterMembers chip u m n members
    → AreClusterMembers chip u m n others → members ≡ others

-- marks of the instances at the bridge, after it and before it give its cluster
abbrev pub MarksGiveCluster : Type 0
MarksGiveCluster =
    (chip : Chip) (u m n : ℕ) (at after before : ℕ → Bool) → u < count_of chip
    → AreBridgeMarks chip u m n at after before
    → AreClusterMembers chip u m n (marked_instances chip at after before)
