-- Codes of a netlist whose one NAND2 has both pins on the port a: bit 0 is a in the first vector, bit 1 is a
-- in the last one.
use Rattle.std.specs.Prelude.{ℕ, ◌≡◌, ◌≢◌, true, false, List, [], ◌∷◌, ◌++◌}
use Rattle.ca_net.specs.declared.scale.TheConstants.{OUTPUT_NET, STRONGEST}
use Rattle.ca_net.specs.declared.trit.Trit.{Trit}
use Rattle.ca_net.specs.declared.trit.Trit.TheVariants.{Zero, One, X}
use Rattle.ca_net.specs.declared.node.NodeKind.TheVariants as node
use Rattle.ca_net.specs.declared.device.DeviceKind.{DeviceKind}
use Rattle.ca_net.specs.declared.device.DeviceKind.TheVariants.{N, P}
use Rattle.ca_net.specs.State.{value_at}
use Rattle.ca_cell.specs.declared.raw.Role.TheVariants.{Input, Output, Power, Ground}
use Rattle.ca_cell.specs.declared.raw.RawDevice.{RawDevice}
use Rattle.ca_cell.specs.declared.raw.RawCell.{RawCell}
use Rattle.ca_cell.specs.declared.defect.Defect.TheVariants.{OpenDrain}
use Rattle.ca_flat.specs.declared.chip_defect.ChipDefect.{ChipDefect}
use Rattle.ca_flat.specs.declared.token.Token.{Token}
use Rattle.ca_flat.specs.declared.token.Token.TheVariants.{Branch, Leaf}
use Rattle.ca_flat.specs.Chip.{Chip}
use Rattle.ca_flat.specs.Chain.{IsSupportBit}
use Rattle.ca_flat.specs.Codes.{Rules, branch_count, IsWholeBy, IsFrontBy, IsSpentBy}

-- a transistor with this drain, gate and source
abbrev pub transistor : DeviceKind → ℕ → ℕ → ℕ → RawDevice
transistor kind drain gate source = record {
  name = 109 ∷ [];
  kind = kind;
  strength = STRONGEST;
  width = record { 0 = 1 };
  length = record { 0 = 1 };
  drain = drain;
  gate = gate;
  source = source;
}

-- power v, ground g, inputs a and b, output z, inner net n
abbrev pub nand2 : RawCell
nand2 = record {
  pins = record { name = 118 ∷ []; role = Power } ∷ record { name = 103 ∷ []; role = Ground }
      ∷ record { name = 97 ∷ []; role = Input } ∷ record { name = 98 ∷ []; role = Input }
      ∷ record { name = 122 ∷ []; role = Output } ∷ [];
  nets = (118 ∷ []) ∷ (103 ∷ []) ∷ (97 ∷ []) ∷ (98 ∷ []) ∷ (122 ∷ []) ∷ (110 ∷ []) ∷ [];
  devices = transistor P 4 2 0 ∷ transistor P 4 3 0 ∷ transistor N 4 2 5 ∷ transistor N 5 3 1 ∷ [];
}

-- net 0 is the chip input, on both input pins, and net 1 the observed output
abbrev pub tied_chip : Chip
tied_chip = record {
  nets = node.Input ∷ node.Storage OUTPUT_NET ∷ [];
  instances = record { cell = nand2; pins = 0 ∷ 0 ∷ 1 ∷ [] } ∷ [];
  inputs = 0 ∷ [];
  constants = [];
  outputs = 1 ∷ [];
}

-- the drain of the first transistor is open; only pins with different values could show it
abbrev pub open_drain : ChipDefect
open_drain = record { instance = 0; defect = OpenDrain (record { 0 = 0 }) }

-- both bits are in the support of the defect
abbrev pub TiedSupport : Type 0
TiedSupport = IsSupportBit tied_chip open_drain 0 × IsSupportBit tied_chip open_drain 1

-- a leaf is allowed where both bits are set, and a branch on a bit that is unset
abbrev pub full_rules : Rules
full_rules = record {
  leaf = λ pair. (value_at pair 0 ≢ X) × (value_at pair 1 ≢ X);
  branch = λ pair bit. value_at pair bit ≡ X;
}

-- a is 0 first, and then last 0, and last 1; then a is 1 first, and then last 0, and last 1
abbrev pub tied_code : List Token
tied_code = Branch 0 false ∷ Branch 1 false ∷ Leaf ∷ Leaf ∷ Branch 1 false ∷ Leaf ∷ Leaf ∷ []

-- after the tokens the reading is at the pair
abbrev pub StandsAt : List Token → List Trit → Type 0
StandsAt code pair = IsFrontBy full_rules tied_chip code pair

-- the reading of the code, token by token, and codes that aren't lawful
pub record TiedReads : Type 0 where
  pub whole : IsWholeBy full_rules tied_chip tied_code
  pub branches : branch_count tied_code ≡ 3
  pub before_all : StandsAt [] (X ∷ X ∷ [])
  pub first_zero : StandsAt (Branch 0 false ∷ []) (Zero ∷ X ∷ [])
  pub both_zero : StandsAt (Branch 0 false ∷ Branch 1 false ∷ []) (Zero ∷ Zero ∷ [])
  pub last_one : StandsAt (Branch 0 false ∷ Branch 1 false ∷ Leaf ∷ []) (Zero ∷ One ∷ [])
  pub first_one : StandsAt (Branch 0 false ∷ Branch 1 false ∷ Leaf ∷ Leaf ∷ []) (One ∷ X ∷ [])
  pub both_one : StandsAt
      (Branch 0 false ∷ Branch 1 false ∷ Leaf ∷ Leaf ∷ Branch 1 false ∷ Leaf ∷ []) (One ∷ One ∷ [])
  pub spent : IsSpentBy full_rules tied_chip 1 (Branch 0 false ∷ [])
  pub early_leaf : IsWholeBy full_rules tied_chip (Branch 0 false ∷ Leaf ∷ Leaf ∷ []) → ⊥
  pub bit_twice : (pair : List Trit) → StandsAt (Branch 0 false ∷ Branch 0 true ∷ []) pair → ⊥
  pub too_short : IsWholeBy full_rules tied_chip (Branch 0 false ∷ Branch 1 false ∷ Leaf ∷ Leaf ∷ []) → ⊥
  pub too_long : IsWholeBy full_rules tied_chip (tied_code ++ Leaf ∷ []) → ⊥
