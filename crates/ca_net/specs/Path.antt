-- Rooted paths (Bryant 1984, rooted paths and their strength).
use Rattle.std.specs.Prelude.{ℕ, ◌≡◌, ◌<◌, ◌⊎◌, List, length, min}
use Rattle.std.specs.List.{Contains}
use Rattle.ca_net.specs.declared.scale.TheConstants.{INPUT}
use Rattle.ca_net.specs.declared.trit.Trit.{Trit}
use Rattle.ca_net.specs.declared.node.NodeKind.{NodeKind}
use Rattle.ca_net.specs.declared.node.NodeKind.TheVariants.{Input, Storage}
use Rattle.ca_net.specs.declared.device.Device.{Device}
use Rattle.ca_net.specs.Circuit.{Circuit, kind_at}
use Rattle.ca_net.specs.Conduction.{IsOpen, Conducts, Links}

-- a root, and the devices that lead away from it, each with the node to which it leads; the last device is
-- outermost
pub data Path : Type 0 where
  Root : ℕ → Path
  Via : Path → Device → ℕ → Path

-- the node at which a path begins
abbrev pub root_of : Path → ℕ
root_of (Root r) = r
root_of (Via p d n) = root_of p

-- the node at which a path ends
abbrev pub end_of : Path → ℕ
end_of (Root r) = r
end_of (Via p d n) = n

-- the node is on the path, its root and its end included
abbrev pub IsOn : ℕ → Path → Type 0
IsOn m (Root r) = m ≡ r
IsOn m (Via p d n) = (m ≡ n) ⊎ IsOn m p

-- each device is one of the network's and links two nodes of it, and no node comes twice
abbrev pub IsPath : Circuit → Path → Type 0
IsPath net (Root r) = r < length net.nodes
IsPath net (Via p d n) =
    IsPath net p × Contains net.devices d × Links d (end_of p) n × (n < length net.nodes) × (IsOn n p → ⊥)

-- what a root gives to the paths that begin at it: an input node its own strength, a storage node its size
abbrev pub root_strength : NodeKind → ℕ
root_strength Input = INPUT
root_strength (Storage size) = size

-- the least of the root's strength and the devices' strengths
abbrev pub strength_of : Circuit → Path → ℕ
strength_of net (Root r) = root_strength (kind_at net r)
strength_of net (Via p d n) = min (strength_of net p) d.strength

-- no device of the path is open
abbrev pub IsPotential : List Trit → Path → Type 0
IsPotential s (Root r) = Unit {0}
IsPotential s (Via p d n) = IsPotential s p × (IsOpen s d → ⊥)

-- each device of the path conducts
abbrev pub IsDefinite : List Trit → Path → Type 0
IsDefinite s (Root r) = Unit {0}
IsDefinite s (Via p d n) = IsDefinite s p × Conducts s d
