-- Flat networks that were worked out by hand.
use Rattle.std.specs.Prelude.{ℕ, ◌≡◌, [], ◌∷◌, None, Some}
use Rattle.ca_net.specs.declared.scale.TheConstants.{INNER_NODE, OUTPUT_NET, STRONGEST, BRIDGE}
use Rattle.ca_net.specs.declared.node.NodeKind.TheVariants.{Input, Storage}
use Rattle.ca_net.specs.declared.device.Device.{Device}
use Rattle.ca_net.specs.declared.device.DeviceKind.{DeviceKind}
use Rattle.ca_net.specs.declared.device.DeviceKind.TheVariants.{N, P, D}
use Rattle.ca_cell.specs.declared.defect.Defect.TheVariants.{OpenDrain, OpenPin, Short}
use Rattle.ca_flat.specs.Chip.{Chip}
use Rattle.ca_flat.specs.Flat.{flat}
use Rattle.ca_flat_tests.specs.Inverter.{inverter_chip, open_gate}
use Rattle.ca_flat_tests.specs.Tied.{nand2}

-- a device with this drain, gate and source
abbrev pub switch : DeviceKind → ℕ → ℕ → ℕ → Device
switch kind drain gate source = record {
  kind = kind;
  strength = STRONGEST;
  gate = record { 0 = gate };
  a = record { 0 = drain };
  b = record { 0 = source };
}

-- the bridge of two nodes
abbrev pub bridge : ℕ → ℕ → Device
bridge low high = record {
  kind = D;
  strength = BRIDGE;
  gate = record { 0 = low };
  a = record { 0 = low };
  b = record { 0 = high };
}

-- nets 0 a and 1 b are chip inputs; the first NAND2 has them and drives net 2; the second has net 2 and a and
-- drives the observed net 3
abbrev pub two_nands : Chip
two_nands = record {
  nets = Input ∷ Input ∷ Storage OUTPUT_NET ∷ Storage OUTPUT_NET ∷ [];
  instances = record { cell = nand2; pins = 0 ∷ 1 ∷ 2 ∷ [] }
      ∷ record { cell = nand2; pins = 2 ∷ 0 ∷ 3 ∷ [] } ∷ [];
  inputs = 0 ∷ 1 ∷ [];
  constants = [];
  outputs = 3 ∷ [];
}

-- The flat nodes of the inverter: power, ground, 2 a, 3 y; an open gate adds the node 4. Those of the two
-- NAND2 cells: power, ground, 2 a, 3 b, 4 and 5 the driven nets, 6 and 7 the inner nodes; an open adds the
-- node 8.
pub record AreByHand : Type 0 where
  pub inverter : flat inverter_chip None ≡ record {
    nodes = Input ∷ Input ∷ Input ∷ Storage OUTPUT_NET ∷ [];
    devices = switch N 3 2 1 ∷ switch P 3 2 0 ∷ [];
  }
  pub inverter_open : flat inverter_chip (Some open_gate) ≡ record {
    nodes = Input ∷ Input ∷ Input ∷ Storage OUTPUT_NET ∷ Storage INNER_NODE ∷ [];
    devices = switch N 3 4 1 ∷ switch P 3 2 0 ∷ [];
  }
  pub nands : flat two_nands None ≡ record {
    nodes = Input ∷ Input ∷ Input ∷ Input ∷ Storage OUTPUT_NET ∷ Storage OUTPUT_NET
        ∷ Storage INNER_NODE ∷ Storage INNER_NODE ∷ [];
    devices = switch P 4 2 0 ∷ switch P 4 3 0 ∷ switch N 4 2 6 ∷ switch N 6 3 1
        ∷ switch P 5 4 0 ∷ switch P 5 2 0 ∷ switch N 5 4 7 ∷ switch N 7 2 1 ∷ [];
  }
  pub open_drain_of_the_second : flat two_nands
      (Some (record { instance = 1; defect = OpenDrain (record { 0 = 2 }) }))
      ≡ record {
        nodes = Input ∷ Input ∷ Input ∷ Input ∷ Storage OUTPUT_NET ∷ Storage OUTPUT_NET
            ∷ Storage INNER_NODE ∷ Storage INNER_NODE ∷ Storage INNER_NODE ∷ [];
        devices = switch P 4 2 0 ∷ switch P 4 3 0 ∷ switch N 4 2 6 ∷ switch N 6 3 1
            ∷ switch P 5 4 0 ∷ switch P 5 2 0 ∷ switch N 8 4 7 ∷ switch N 7 2 1 ∷ [];
      }
  pub open_pin_of_the_first : flat two_nands
      (Some (record { instance = 0; defect = OpenPin (record { 0 = 2 }) }))
      ≡ record {
        nodes = Input ∷ Input ∷ Input ∷ Input ∷ Storage OUTPUT_NET ∷ Storage OUTPUT_NET
            ∷ Storage INNER_NODE ∷ Storage INNER_NODE ∷ Storage INNER_NODE ∷ [];
        devices = switch P 4 8 0 ∷ switch P 4 3 0 ∷ switch N 4 8 6 ∷ switch N 6 3 1
            ∷ switch P 5 4 0 ∷ switch P 5 2 0 ∷ switch N 5 4 7 ∷ switch N 7 2 1 ∷ [];
      }
  pub short_in_the_second : flat two_nands
      (Some (record { instance = 1; defect = Short (record { 0 = 4 }) (record { 0 = 5 }) })) ≡ record {
        nodes = Input ∷ Input ∷ Input ∷ Input ∷ Storage OUTPUT_NET ∷ Storage OUTPUT_NET
            ∷ Storage INNER_NODE ∷ Storage INNER_NODE ∷ [];
        devices = switch P 4 2 0 ∷ switch P 4 3 0 ∷ switch N 4 2 6 ∷ switch N 6 3 1
            ∷ switch P 5 4 0 ∷ switch P 5 2 0 ∷ switch N 5 4 7 ∷ switch N 7 2 1 ∷ bridge 5 7 ∷ [];
      }
