-- The bridges of a library instance of a linked chip, their order and their names.
use Rattle.std.specs.Prelude.{ℕ, ◌≡◌, ◌<◌, ◌⊎◌, ◌↔◌, List}
use Rattle.std.specs.List.{Contains, AllPairs}
use Rattle.ca_cell.specs.declared.defect.Defect.TheVariants.{Short}
use Rattle.ca_cell.specs.Name.{name_of}
use Rattle.ca_flat.specs.Chip.{cell_at}
use Rattle.ca_linked.specs.Linked.{LinkedChip, IsLibrary}
use Rattle.ca_view.specs.Core.{core_of}
use Rattle.ca_merged.specs.Bridge.{IsBridge}
use Rattle.ca_cluster.specs.declared.bridge.Bridge.{Bridge}

-- a bridge of a library instance: two nodes of its cell in their order, of which one at least is an input pin
pub record IsKnown (chip : LinkedChip) (bridge : Bridge) : Type 0 where
  pub library : IsLibrary chip bridge.instance.0
  pub is_bridge : IsBridge (core_of chip) bridge.instance.0 bridge.m.0 bridge.n.0

-- the bridge is one of the instance u
abbrev pub IsBridgeOf : LinkedChip → ℕ → Bridge → Type 0
IsBridgeOf chip u bridge = IsKnown chip bridge × (bridge.instance.0 ≡ u)

-- in the order of the lower nodes, and then of the higher ones
abbrev pub IsBefore : Bridge → Bridge → Type 0
IsBefore one other = (one.m.0 < other.m.0) ⊎ ((one.m.0 ≡ other.m.0) × (one.n.0 < other.n.0))

-- the list has exactly the bridges of the instance u, each once, in their order
pub record AreBridgesOf (chip : LinkedChip) (u : ℕ) (list : List Bridge) : Type 0 where
  pub listed : (bridge : Bridge) → Contains list bridge ↔ IsBridgeOf chip u bridge
  pub ascending : AllPairs IsBefore list

-- the name of a bridge is that of a short of its two nodes, in upper case: A1=ZN, VDD=A2
abbrev pub bridge_name : LinkedChip → Bridge → List ℕ
bridge_name chip bridge = name_of (cell_at (core_of chip) bridge.instance.0) (Short bridge.m bridge.n)
