-- What the room of a block's responses holds, and networks of some devices of a network.
use Rattle.std.specs.Prelude.{ℕ, ◌≡◌, ◌≤◌, ◌-◌, ◌^◌, List, length, replicate}
use Rattle.std.specs.List.{All, Contains}
use Rattle.ca_net.specs.declared.device.Device.{Device}
use Rattle.ca_net.specs.Circuit.{Circuit}
use Rattle.ca_relax.specs.Groups.{HaveOwnStrengths}
use Rattle.ca_levels.specs.declared.levels.Levels.{Levels}
use Rattle.ca_levels.specs.declared.levels.TheConstants.{STRENGTHS}
use Rattle.ca_levels.specs.Given.{AreGiven, AreCarried}

-- there is room for networks with this many nodes and devices
pub record HasRoom (nodes devices : ℕ) (levels : Levels) : Type 0 where
  pub own : length levels.own.items ≡ nodes
  pub not_ones : length levels.not_ones.items ≡ nodes
  pub stronger : length levels.stronger.items ≡ nodes
  pub potential : length levels.potential.items ≡ devices
  pub definite : length levels.definite.items ≡ devices
  pub given_room : length levels.given.items ≡ STRENGTHS
  pub carried_room : length levels.carried.items ≡ STRENGTHS
  pub all : levels.all.items ≡ replicate nodes (2 ^ 64 - 1)
  pub none : levels.none.items ≡ replicate nodes 0

-- there is room for the network, and what its nodes give to paths is there, and which strengths nodes and
-- devices have
pub record HoldsNetwork (net : Circuit) (levels : Levels) : Type 0 where
  pub room : HasRoom (length net.nodes) (length net.devices) levels
  pub own : HaveOwnStrengths net (length net.nodes) levels.own.items
  pub given : AreGiven STRENGTHS levels.own.items levels.given.items
  pub carried : AreCarried STRENGTHS net.devices levels.carried.items

-- the network's nodes with these devices alone
abbrev pub with_devices : Circuit → List Device → Circuit
with_devices net devices = record { nodes = net.nodes; devices = devices }

-- the devices are some of the network's
pub record AreSomeOf (net : Circuit) (devices : List Device) : Type 0 where
  pub few : length devices ≤ length net.devices
  pub among : All (Contains net.devices) devices
