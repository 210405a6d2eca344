-- The chip of `src/tests.rt`: a cell with two outputs, and downstream of it a cell that keeps what it got.
use Rattle.std.specs.Prelude.{◌≡◌, List, [], ◌∷◌, ◌++◌, None, Some}
use Rattle.ca_net.specs.declared.scale.TheConstants.{INNER_NODE, OUTPUT_NET}
use Rattle.ca_net.specs.declared.node.NodeKind.{NodeKind}
use Rattle.ca_net.specs.declared.node.NodeKind.TheVariants as node
use Rattle.ca_net.specs.declared.device.Device.{Device}
use Rattle.ca_net.specs.declared.device.DeviceKind.TheVariants.{N, P}
use Rattle.ca_cell.specs.declared.raw.Role.TheVariants.{Input, Output, Power, Ground}
use Rattle.ca_cell.specs.declared.raw.RawCell.{RawCell}
use Rattle.ca_cell.specs.declared.defect.Defect.TheVariants.{Short}
use Rattle.ca_flat.specs.declared.chip_defect.ChipDefect.{ChipDefect}
use Rattle.ca_flat.specs.Chip.{Chip}
use Rattle.ca_flat.specs.Flat.{flat}
use Rattle.ca_flat_tests.specs.Tied.{transistor}
use Rattle.ca_flat_tests.specs.ByHand.{switch, bridge}

-- power v, ground g, inputs b, a, c, outputs e, y, inner nets m, p, n: m is the inverse of b, e the NOR of m
-- and a, y the NAND of m and c
abbrev pub two_outputs : RawCell
two_outputs = record {
  pins = record { name = 118 ∷ []; role = Power } ∷ record { name = 103 ∷ []; role = Ground }
      ∷ record { name = 98 ∷ []; role = Input } ∷ record { name = 97 ∷ []; role = Input }
      ∷ record { name = 99 ∷ []; role = Input } ∷ record { name = 101 ∷ []; role = Output }
      ∷ record { name = 121 ∷ []; role = Output } ∷ [];
  nets = (118 ∷ []) ∷ (103 ∷ []) ∷ (98 ∷ []) ∷ (97 ∷ []) ∷ (99 ∷ []) ∷ (101 ∷ []) ∷ (121 ∷ [])
      ∷ (109 ∷ []) ∷ (112 ∷ []) ∷ (110 ∷ []) ∷ [];
  devices = transistor P 7 2 0 ∷ transistor N 7 2 1
      ∷ transistor P 8 7 0 ∷ transistor P 5 3 8 ∷ transistor N 5 7 1 ∷ transistor N 5 3 1
      ∷ transistor P 6 7 0 ∷ transistor P 6 4 0 ∷ transistor N 6 7 9 ∷ transistor N 9 4 1 ∷ [];
}

-- power v, ground g, inputs y, e, output z, which is charged while y is 0 and discharged while e is 1
abbrev pub keeper : RawCell
keeper = record {
  pins = record { name = 118 ∷ []; role = Power } ∷ record { name = 103 ∷ []; role = Ground }
      ∷ record { name = 121 ∷ []; role = Input } ∷ record { name = 101 ∷ []; role = Input }
      ∷ record { name = 122 ∷ []; role = Output } ∷ [];
  nets = (118 ∷ []) ∷ (103 ∷ []) ∷ (121 ∷ []) ∷ (101 ∷ []) ∷ (122 ∷ []) ∷ [];
  devices = transistor P 4 2 0 ∷ transistor N 4 3 1 ∷ [];
}

-- nets 0 b, 1 a, 2 c are chip inputs, 3 e and 4 y lead from the one cell to the other, and 5 z is observed
abbrev pub keeper_chip : Chip
keeper_chip = record {
  nets = node.Input ∷ node.Input ∷ node.Input
      ∷ node.Storage OUTPUT_NET ∷ node.Storage OUTPUT_NET ∷ node.Storage OUTPUT_NET ∷ [];
  instances = record { cell = two_outputs; pins = 0 ∷ 1 ∷ 2 ∷ 3 ∷ 4 ∷ [] }
      ∷ record { cell = keeper; pins = 4 ∷ 3 ∷ 5 ∷ [] } ∷ [];
  inputs = 0 ∷ 1 ∷ 2 ∷ [];
  constants = [];
  outputs = 5 ∷ [];
}

-- power and m are shorted
abbrev pub keeper_short : ChipDefect
keeper_short = record { instance = 0; defect = Short (record { 0 = 0 }) (record { 0 = 7 }) }

-- power, ground, 2 b, 3 a, 4 c, 5 e, 6 y, 7 z, 8 m, 9 p, 10 n
abbrev pub keeper_nodes : List NodeKind
keeper_nodes = node.Input ∷ node.Input ∷ node.Input ∷ node.Input ∷ node.Input
    ∷ node.Storage OUTPUT_NET ∷ node.Storage OUTPUT_NET ∷ node.Storage OUTPUT_NET
    ∷ node.Storage INNER_NODE ∷ node.Storage INNER_NODE ∷ node.Storage INNER_NODE ∷ []

-- the transistors in the order of the two cells
abbrev pub keeper_devices : List Device
keeper_devices = switch P 8 2 0 ∷ switch N 8 2 1
    ∷ switch P 9 8 0 ∷ switch P 5 3 9 ∷ switch N 5 8 1 ∷ switch N 5 3 1
    ∷ switch P 6 8 0 ∷ switch P 6 4 0 ∷ switch N 6 8 10 ∷ switch N 10 4 1
    ∷ switch P 7 6 0 ∷ switch N 7 5 1 ∷ []

-- the flat network, good and with the short, is the one that the tests build
pub record KeeperIsByHand : Type 0 where
  pub good : flat keeper_chip None ≡ record { nodes = keeper_nodes; devices = keeper_devices }
  pub shorted : flat keeper_chip (Some keeper_short)
      ≡ record { nodes = keeper_nodes; devices = keeper_devices ++ bridge 0 8 ∷ [] }
