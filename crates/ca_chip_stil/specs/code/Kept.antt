-- What the code keeps while it builds. Only the proofs of the code cite this.
use Rattle.std.specs.Prelude.{ℕ, ◌≡◌, ◌<◌, ◌≤◌, ◌+◌, Bool, true, false, eqb, List, length, drop, Option, Some}
use Rattle.std.specs.Prelude.{None, IfSome, slice_get, slice_index, get_or, if◌then◌else◌}
use Rattle.std.specs.List.{All, position_or_len}
use Rattle.ca_linked.specs.declared.parts.PortBit.{PortBit}
use Rattle.ca_linked.specs.Linked.{LinkedChip, net_count}
use Rattle.ca_linked.specs.Paths.{is_port_on}
use Rattle.ca_linked.specs.Instances.{scans_of}
use Rattle.ca_scan.specs.Chain.{IsScanAt}
use Rattle.ca_chip_stil.specs.declared.ports.Ports.{Ports}
use Rattle.ca_chip_stil.specs.ChipStil.{port_on}

-- the port bit at a place, if there is one
abbrev pub port_at : List PortBit → Option ℕ → Option PortBit
port_at ports None = None
port_at ports (Some p) = slice_get ports p

-- the entry of a net
abbrev pub entry_of : List (Option ℕ) → ℕ → Option ℕ
entry_of table net = get_or table net None

-- for each net the first of the port bits of this direction on it, from the bit p on
pub record AreFirstPorts (chip : LinkedChip) (input : Bool) (p : ℕ) (table : List (Option ℕ)) : Type 0 where
  pub room : length table ≡ net_count chip
  pub known : (net : ℕ) → IfSome (entry_of table net) (λ port. port < length chip.ports)
  pub each : (net : ℕ) → port_at chip.ports (entry_of table net) ≡ port_on input net (drop p chip.ports)

-- the port bit p is now the first on its net, if it is of this direction, and all else is as it was
pub record SetsPort (chip : LinkedChip) (input : Bool) (p : ℕ) (old new : List (Option ℕ)) : Type 0 where
  pub port : PortBit
  pub at : slice_get chip.ports p ≡ Some port
  pub room : length new ≡ length old
  pub each : (net : ℕ) → entry_of new net ≡ (if is_port_on input net port then Some p else entry_of old net)

-- the place of each instance among the scan instances from the k-th on
pub record ArePlacesFrom (chip : LinkedChip) (k : ℕ) (table : List ℕ) : Type 0 where
  pub room : length table ≡ length chip.parts
  pub each : (u : ℕ) → u < length chip.parts
      → slice_index table u ≡ k + position_or_len (eqb u) (drop k (scans_of chip))

-- the first ports of both directions
pub record ArePorts (chip : LinkedChip) (ports : Ports) : Type 0 where
  pub inputs_are : AreFirstPorts chip true 0 ports.inputs
  pub outputs_are : AreFirstPorts chip false 0 ports.outputs

-- these are scan instances
abbrev pub AreScans : LinkedChip → List ℕ → Type 0
AreScans chip chain = All (IsScanAt chip) chain

-- these are scan instances, at least one
pub record IsRun (chip : LinkedChip) (chain : List ℕ) : Type 0 where
  pub some : 1 ≤ length chain
  pub scans : AreScans chip chain
