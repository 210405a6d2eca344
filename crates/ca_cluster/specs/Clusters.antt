-- What the cluster of a bridge is: none, since the bridge is at a port or at one node; a cell that breaks a
-- rule; or a cell of a merged chip, one short of which is the bridge.
use Rattle.std.specs.Prelude.{ℕ, ◌-◌, ◌≡◌, ◌<◌, ◌⊎◌, ◌↔◌, List, length, None, Some}
use Rattle.std.specs.List.{Contains}
use Rattle.ca_net.specs.declared.trit.Trit.{Trit}
use Rattle.ca_cell.specs.declared.rule.CellRule.{CellRule}
use Rattle.ca_cell.specs.Rules.{IsFirstBroken, KeepsRules}
use Rattle.ca_flat.specs.declared.chip_defect.ChipDefect.{ChipDefect}
use Rattle.ca_flat.specs.Chip.{Constant, Chip, net_of}
use Rattle.ca_flat.specs.Flat.{place}
use Rattle.ca_flat.specs.Pair.{NetEndsAt, DetectsAt}
use Rattle.ca_flat.specs.Waves.{IsFlatChip}
use Rattle.ca_linked.specs.Linked.{LinkedChip, IsLibrary}
use Rattle.ca_view.specs.Core.{core_of}
use Rattle.ca_merged.specs.Cluster.{cluster_cell}
use Rattle.ca_merged.specs.Bridge.{IsInputPin, BridgeEndsAt, BridgeDetectsAt, short_of}
use Rattle.ca_merged.specs.Members.{AreClusterMembers}
use Rattle.ca_merge.specs.Merge.{IsMergedOf}
use Rattle.ca_cluster.specs.declared.bridge.Bridge.{Bridge}
use Rattle.ca_cluster.specs.declared.clusters.Clustered.{Clustered}
use Rattle.ca_cluster.specs.declared.clusters.Clustered.TheVariants.{Port, OneNode, Wide, Merged}

-- the net is that of a chip input, or of a constant
abbrev pub IsPortNet : Chip → ℕ → Type 0
IsPortNet chip net =
    Contains chip.inputs net
    ⊎ ((constant : Constant) × Contains chip.constants constant × (constant.net ≡ net))

-- the node n of the instance u is that of an input pin on such a net
abbrev pub IsPortEnd : Chip → ℕ → ℕ → Type 0
IsPortEnd chip u n = IsInputPin chip u n × IsPortNet chip (net_of chip u (n - 2))

-- an input pin among the ends of the bridge is on a chip input or a constant
abbrev pub IsAtPort : Chip → Bridge → Type 0
IsAtPort chip bridge =
    IsPortEnd chip bridge.instance.0 bridge.m.0 ⊎ IsPortEnd chip bridge.instance.0 bridge.n.0

-- both ends of the bridge are one node of the flat network
abbrev pub IsOneNode : Chip → Bridge → Type 0
IsOneNode chip bridge =
    place chip bridge.instance.0 bridge.m.0 ≡ place chip bridge.instance.0 bridge.n.0

-- these are the members of the cluster of the bridge
abbrev pub AreMembersOf : LinkedChip → Bridge → List ℕ → Type 0
AreMembersOf chip bridge members =
    AreClusterMembers (core_of chip) bridge.instance.0 bridge.m.0 bridge.n.0 members

-- the bridge has two ends, neither of which is an input pin on a chip input or a constant
pub record IsInside (chip : LinkedChip) (bridge : Bridge) : Type 0 where
  pub no_port : IsAtPort (core_of chip) bridge → ⊥
  pub apart : IsOneNode (core_of chip) bridge → ⊥

-- the members of the cluster as one cell break this rule first
pub record IsWide (chip : LinkedChip) (bridge : Bridge) (rule : CellRule) : Type 0 where
  pub members : List ℕ
  pub are : AreMembersOf chip bridge members
  pub broken : IsFirstBroken (cluster_cell (core_of chip) members) rule

-- the short of a chip, for the bridge of the other: at each net every run for a pair ends alike in their good
-- flat networks, and in those with the short and with the bridge
pub record IsShortFor (chip : Chip) (bridge : Bridge) (made : Chip) (short : ChipDefect) : Type 0 where
  pub rank : ℕ → ℕ
  pub flat_chip : IsFlatChip made rank short
  pub same_inputs : made.inputs ≡ chip.inputs
  pub same_outputs : made.outputs ≡ chip.outputs
  pub good : (pair : List Trit) (net : ℕ) (v : Trit) → net < length chip.nets
      → NetEndsAt chip None pair net v ↔ NetEndsAt made None pair net v
  pub faulty : (pair : List Trit) (net : ℕ) (v : Trit) → net < length chip.nets
      → BridgeEndsAt chip bridge.instance.0 bridge.m.0 bridge.n.0 pair net v
      ↔ NetEndsAt made (Some short) pair net v
  pub detects : (pair : List Trit) (net : ℕ) → net < length chip.nets
      → BridgeDetectsAt chip bridge.instance.0 bridge.m.0 bridge.n.0 pair net ↔ DetectsAt made short pair net

-- the chip with the members as its last instance, and the short of that instance between the bridge's ends,
-- which is the bridge
pub record IsMergedFor (chip : LinkedChip) (bridge : Bridge) (members : List ℕ) (made : LinkedChip)
    (short : ChipDefect) : Type 0 where
  pub is : IsMergedOf chip members made short.instance
  pub keeps : KeepsRules (cluster_cell (core_of chip) members)
  pub library : IsLibrary made short.instance
  pub short_is : short ≡ short_of (core_of chip) members bridge.instance.0 bridge.m.0 bridge.n.0
  pub stands : IsShortFor (core_of chip) bridge (core_of made) short

-- of the cluster of a bridge
pub record IsMergedBy (chip : LinkedChip) (bridge : Bridge) (made : LinkedChip) (short : ChipDefect)
    : Type 0 where
  pub members : List ℕ
  pub are : AreMembersOf chip bridge members
  pub merged : IsMergedFor chip bridge members made short

-- what the cluster of the bridge is; each comes exactly where it says
abbrev pub IsClustered : LinkedChip → Bridge → Clustered → Type 0
IsClustered chip bridge Port = IsAtPort (core_of chip) bridge
IsClustered chip bridge OneNode =
    (IsAtPort (core_of chip) bridge → ⊥) × IsOneNode (core_of chip) bridge
IsClustered chip bridge (Wide rule) = IsInside chip bridge × IsWide chip bridge rule
IsClustered chip bridge (Merged made short) = IsInside chip bridge × IsMergedBy chip bridge made short
