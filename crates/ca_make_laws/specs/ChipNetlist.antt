-- The netlist of a generated chip in numbers of bits: those of the chip inputs come first, then those of the
-- chip outputs, and then those of the wires.
use Rattle.std.specs.Prelude.{ℕ, ◌+◌, nat_lt, if◌then◌else◌, List, [], ◌∷◌, ◌++◌, map, length, codes}
use Rattle.std.specs.Prelude.{Some, None}
use Rattle.std.specs.List.{range_with_len}
use Rattle.ca_verilog.specs.declared.table.Direction.{Direction}
use Rattle.ca_verilog.specs.declared.table.Direction.TheVariants.{Input, Output, Inner}
use Rattle.ca_verilog.specs.declared.raw.RawBus.{RawBus}
use Rattle.ca_verilog.specs.declared.raw.RawBit.TheVariants.{Bit}
use Rattle.ca_verilog.specs.declared.raw.RawJoin.{RawJoin}
use Rattle.ca_verilog.specs.declared.raw.RawUse.{RawUse}
use Rattle.ca_verilog.specs.declared.raw.RawInstance.{RawInstance}
use Rattle.ca_verilog.specs.declared.raw.RawNetlist.{RawNetlist}
use Rattle.ca_make.specs.declared.gate.Gate.{Gate}
use Rattle.ca_make.specs.declared.gate.Gate.TheVariants as gate
use Rattle.ca_make.specs.declared.gate.TheConstants.{INPUTS}
use Rattle.ca_make.specs.Chip.{gates_of, unloaded}
use Rattle.ca_make.specs.NetlistText.{numbered, cell_of}
use Rattle.ca_make_laws.specs.ChipTree.{names_of}

-- a name of one bit
abbrev pub bus : Direction → List ℕ → RawBus
bus direction name = record { name = name; direction = direction; range = None }

-- the bit of the candidate at a place: the wires are as much further as there are outputs
abbrev pub candidate_bit : ℕ → ℕ → ℕ
candidate_bit outputs place = if nat_lt place INPUTS then place else outputs + place

-- the bit of the wire of a gate
abbrev pub wire_bit : ℕ → ℕ → ℕ
wire_bit outputs k = INPUTS + (outputs + k)

-- a pin on a bit
abbrev pub on_bit : List ℕ → ℕ → RawUse
on_bit pin bit = record { pin = pin; bit = Some (Bit bit) }

-- the input pins of a gate
abbrev pub input_uses : ℕ → Gate → List RawUse
input_uses outputs (gate.Inv a) = on_bit (codes "A") (candidate_bit outputs a) ∷ []
input_uses outputs (gate.Nand2 a b) =
    on_bit (codes "A1") (candidate_bit outputs a) ∷ on_bit (codes "A2") (candidate_bit outputs b) ∷ []
input_uses outputs (gate.Nor2 a b) =
    on_bit (codes "A1") (candidate_bit outputs a) ∷ on_bit (codes "A2") (candidate_bit outputs b) ∷ []

-- the instance of the gate of this number
abbrev pub gate_instance : ℕ → ℕ → Gate → RawInstance
gate_instance outputs k it = record {
  name = numbered (codes "u") k;
  cell = cell_of it;
  pins = input_uses outputs it ++ on_bit (codes "ZN") (wire_bit outputs k) ∷ [];
}

-- the chip output of this number joined to the wire of a gate
abbrev pub output_join : ℕ → ℕ → ℕ → RawJoin
output_join outputs j k = record { left = Bit (INPUTS + j); right = Bit (wire_bit outputs k) }

-- what each of these gives with its number, counted from this one
abbrev pub each_from : {X Y : Type 0} → (ℕ → X → Y) → ℕ → List X → List Y
each_from give k [] = []
each_from give k (x ∷ xs) = give k x ∷ each_from give (k + 1) xs

-- the netlist of a chip of these gates with these outputs
abbrev pub netlist_in_numbers : List Gate → List ℕ → RawNetlist
netlist_in_numbers gates outputs = record {
  buses = map (bus Input) (names_of (codes "i") INPUTS)
      ++ (map (bus Output) (names_of (codes "o") (length outputs))
      ++ map (bus Inner) (names_of (codes "w") (length gates)));
  ports = range_with_len 0 (INPUTS + length outputs);
  joins = each_from (output_join (length outputs)) 0 outputs;
  instances = each_from (gate_instance (length outputs)) 0 gates;
}

-- the netlist of the generated chip of a number
abbrev pub chip_netlist : ℕ → RawNetlist
chip_netlist n = netlist_in_numbers (gates_of n) (unloaded (gates_of n))
