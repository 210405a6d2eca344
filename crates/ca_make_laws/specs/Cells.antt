-- The cells of generated chips, as subcircuits that were read.
use Rattle.std.specs.Prelude.{ℕ, List, [], ◌∷◌, map, codes}
use Rattle.ca_net.specs.declared.device.DeviceKind.{DeviceKind}
use Rattle.ca_net.specs.declared.device.DeviceKind.TheVariants as kind
use Rattle.ca_net.specs.declared.scale.TheConstants.{STRONGEST}
use Rattle.ca_cell.specs.declared.raw.Role.{Role}
use Rattle.ca_cell.specs.declared.raw.Role.TheVariants as role
use Rattle.ca_cell.specs.declared.raw.RawPin.{RawPin}
use Rattle.ca_cell.specs.declared.raw.RawDevice.{RawDevice}
use Rattle.ca_cell.specs.declared.raw.RawCell.{RawCell}
use Rattle.ca_cell.specs.declared.library.Entry.TheVariants.{Sound}
use Rattle.ca_cell.specs.Library.{Named}

-- a pin of a name and a role
abbrev pub pin : List ℕ → Role → RawPin
pin name role = record { name = name; role = role }

-- a transistor of a width in units of 10^-18 metre, whose channel is 50 nanometres long: more than eight
-- times as wide as long, and so one of the strongest
abbrev pub transistor : DeviceKind → ℕ → List ℕ → ℕ → ℕ → ℕ → RawDevice
transistor kind width name drain gate source = record {
  name = name;
  kind = kind;
  strength = STRONGEST;
  width = record { 0 = width };
  length = record { 0 = 50000000000 };
  drain = drain;
  gate = gate;
  source = source;
}

-- a p-device of 630 nanometres, and an n-device of 415
abbrev pub p_device : List ℕ → ℕ → ℕ → ℕ → RawDevice
p_device = transistor kind.P 630000000000

abbrev pub n_device : List ℕ → ℕ → ℕ → ℕ → RawDevice
n_device = transistor kind.N 415000000000

-- the power and the ground, which are the last two pins of each cell
abbrev pub rails : List RawPin
rails = pin (codes "VDD") role.Power ∷ pin (codes "VSS") role.Ground ∷ []

-- an inverter; its nets are A, ZN, VDD and VSS
abbrev pub inv : RawCell
inv = record {
  pins = pin (codes "A") role.Input ∷ pin (codes "ZN") role.Output ∷ rails;
  nets = codes "A" ∷ codes "ZN" ∷ codes "VDD" ∷ codes "VSS" ∷ [];
  devices = p_device (codes "MP1") 1 0 2 ∷ n_device (codes "MN1") 1 0 3 ∷ [];
}

-- the pins of a cell of two inputs
abbrev pub two_input_pins : List RawPin
two_input_pins =
    pin (codes "A1") role.Input ∷ pin (codes "A2") role.Input ∷ pin (codes "ZN") role.Output ∷ rails

-- a NAND; its nets are A1, A2, ZN, VDD, VSS and N1
abbrev pub nand2 : RawCell
nand2 = record {
  pins = two_input_pins;
  nets = codes "A1" ∷ codes "A2" ∷ codes "ZN" ∷ codes "VDD" ∷ codes "VSS" ∷ codes "N1" ∷ [];
  devices = p_device (codes "MP1") 2 0 3 ∷ p_device (codes "MP2") 2 1 3
      ∷ n_device (codes "MN1") 2 0 5 ∷ n_device (codes "MN2") 5 1 4 ∷ [];
}

-- a NOR; its nets are A1, A2, ZN, VDD, VSS and P1
abbrev pub nor2 : RawCell
nor2 = record {
  pins = two_input_pins;
  nets = codes "A1" ∷ codes "A2" ∷ codes "ZN" ∷ codes "VDD" ∷ codes "VSS" ∷ codes "P1" ∷ [];
  devices = p_device (codes "MP1") 5 0 3 ∷ p_device (codes "MP2") 2 1 5
      ∷ n_device (codes "MN1") 2 0 4 ∷ n_device (codes "MN2") 2 1 4 ∷ [];
}

-- the three with their names, in the order of the text
abbrev pub cells : List (List ℕ × RawCell)
cells = (codes "INV", inv) ∷ (codes "NAND2", nand2) ∷ (codes "NOR2", nor2) ∷ []

-- the library of the three, each a cell that keeps the rules
abbrev pub sound_library : List Named
sound_library = map (λ cell. record { name = cell.0; entry = Sound cell.1 }) cells
