-- A chip of one inverter: it keeps what a chip keeps, and so the laws speak of it.
use Rattle.std.specs.Prelude.{[], ◌∷◌}
use Rattle.ca_net.specs.declared.scale.TheConstants.{OUTPUT_NET, STRONGEST}
use Rattle.ca_net.specs.declared.node.NodeKind.TheVariants as node
use Rattle.ca_net.specs.declared.device.DeviceKind.TheVariants.{N, P}
use Rattle.ca_cell.specs.declared.raw.Role.TheVariants.{Input, Output, Power, Ground}
use Rattle.ca_cell.specs.declared.raw.RawDevice.{RawDevice}
use Rattle.ca_cell.specs.declared.raw.RawCell.{RawCell}
use Rattle.ca_cell.specs.declared.defect.Defect.TheVariants.{OpenGate}
use Rattle.ca_flat.specs.declared.chip_defect.ChipDefect.{ChipDefect}
use Rattle.ca_flat.specs.Chip.{Chip, IsChip}
use Rattle.ca_flat.specs.Waves.{IsFlatChip}

-- the transistor to ground
abbrev pub pull_down : RawDevice
pull_down = record {
  name = 110 ∷ [];
  kind = N;
  strength = STRONGEST;
  width = record { 0 = 1 };
  length = record { 0 = 1 };
  drain = 3;
  gate = 2;
  source = 1;
}

-- the transistor to power
abbrev pub pull_up : RawDevice
pull_up = record {
  name = 112 ∷ [];
  kind = P;
  strength = STRONGEST;
  width = record { 0 = 1 };
  length = record { 0 = 1 };
  drain = 3;
  gate = 2;
  source = 0;
}

-- power v, ground g, input a, output y
abbrev pub inverter : RawCell
inverter = record {
  pins = record { name = 118 ∷ []; role = Power } ∷ record { name = 103 ∷ []; role = Ground }
      ∷ record { name = 97 ∷ []; role = Input } ∷ record { name = 121 ∷ []; role = Output } ∷ [];
  nets = (118 ∷ []) ∷ (103 ∷ []) ∷ (97 ∷ []) ∷ (121 ∷ []) ∷ [];
  devices = pull_down ∷ pull_up ∷ [];
}

-- net 0 is the chip input, net 1 the observed output
abbrev pub inverter_chip : Chip
inverter_chip = record {
  nets = node.Input ∷ node.Storage OUTPUT_NET ∷ [];
  instances = record { cell = inverter; pins = 0 ∷ 1 ∷ [] } ∷ [];
  inputs = 0 ∷ [];
  constants = [];
  outputs = 1 ∷ [];
}

-- it is a chip
abbrev pub InverterIsChip : Type 0
InverterIsChip = IsChip inverter_chip (λ u. u)

-- the gate of the transistor to ground is open
abbrev pub open_gate : ChipDefect
open_gate = record { instance = 0; defect = OpenGate (record { 0 = 0 }) }

-- so that the laws of detection speak of it
abbrev pub InverterIsFlat : Type 0
InverterIsFlat = IsFlatChip inverter_chip (λ u. u) open_gate
