-- The text of the generated chip of a number.
use Rattle.std.specs.Prelude.{ℕ, ◌+◌, ◌-◌, if◌then◌else◌, List, [], ◌∷◌, ◌++◌, length, flat_map, nat_lt}
use Rattle.std.specs.Prelude.{codes, decimal}
use Rattle.std.specs.List.{range_with_len}
use Rattle.ca_make.specs.declared.gate.Gate.{Gate}
use Rattle.ca_make.specs.declared.gate.Gate.TheVariants as gate
use Rattle.ca_make.specs.declared.gate.TheConstants.{INPUTS}
use Rattle.ca_make.specs.Chip.{gates_of, unloaded}

-- letters and a number, as w4
abbrev pub numbered : List ℕ → ℕ → List ℕ
numbered letters number = letters ++ decimal number

-- the candidates are i0 to i7 and then w0, w1 and so on; the one at this place
abbrev pub candidate : ℕ → List ℕ
candidate place =
    if nat_lt place INPUTS then numbered (codes "i") place else numbered (codes "w") (place - INPUTS)

-- what these numbers, counted from 0, give one after another
abbrev pub counted : (ℕ → List ℕ) → ℕ → List ℕ
counted part count = flat_map part (range_with_len 0 count)

-- what each of these gives with its number, counted from this one
abbrev pub listed_from : {X : Type 0} → (ℕ → X → List ℕ) → ℕ → List X → List ℕ
listed_from part k [] = []
listed_from part k (x ∷ xs) = part k x ++ listed_from part (k + 1) xs

-- a chip output in the header, after the inputs
abbrev pub output_port : ℕ → List ℕ
output_port j = numbered (codes ", o") j

-- the line that declares a name of these letters
abbrev pub declaration_line : List ℕ → ℕ → List ℕ
declaration_line letters number = numbered letters number ++ codes ";\n"

-- two inputs with their pins
abbrev pub two_pins : ℕ → ℕ → List ℕ
two_pins a b = codes ".A1(" ++ (candidate a ++ (codes "), .A2(" ++ (candidate b ++ codes ")")))

-- the inputs of a gate with their pins
abbrev pub input_pins : Gate → List ℕ
input_pins (gate.Inv a) = codes ".A(" ++ (candidate a ++ codes ")")
input_pins (gate.Nand2 a b) = two_pins a b
input_pins (gate.Nor2 a b) = two_pins a b

-- the cell of a gate
abbrev pub cell_of : Gate → List ℕ
cell_of (gate.Inv a) = codes "INV"
cell_of (gate.Nand2 a b) = codes "NAND2"
cell_of (gate.Nor2 a b) = codes "NOR2"

-- the line of the gate of this number, whose output is w with the same number
abbrev pub instance_line : ℕ → Gate → List ℕ
instance_line k it =
    codes "  " ++ (cell_of it ++ (numbered (codes " u") k ++ (codes " (" ++ (input_pins it
    ++ (numbered (codes ", .ZN(w") k ++ codes "));\n")))))

-- the line that joins the chip output of this number to the output of a gate
abbrev pub assign_line : ℕ → ℕ → List ℕ
assign_line j k = numbered (codes "  assign o") j ++ (numbered (codes " = w") k ++ codes ";\n")

-- the header, with this many chip outputs
unfoldable pub header_text : ℕ → List ℕ
header_text outputs =
    codes "module gen(i0, i1, i2, i3, i4, i5, i6, i7" ++ (counted output_port outputs ++ codes ");\n")

-- the declarations of the chip inputs, of `outputs` outputs, and of a wire for each of `gates` gates
unfoldable pub names_text : ℕ → ℕ → List ℕ
names_text outputs gates =
    counted (declaration_line (codes "  input i")) INPUTS
    ++ (counted (declaration_line (codes "  output o")) outputs
    ++ counted (declaration_line (codes "  wire w")) gates)

-- the text of a chip of these gates with these outputs
unfoldable pub chip_text : List Gate → List ℕ → List ℕ
chip_text gates outputs =
    header_text (length outputs)
    ++ (names_text (length outputs) (length gates)
    ++ (listed_from instance_line 0 gates
    ++ (listed_from assign_line 0 outputs
    ++ codes "endmodule\n")))

-- the text of the generated chip of a number
unfoldable pub netlist_text : ℕ → List ℕ
netlist_text n = chip_text (gates_of n) (unloaded (gates_of n))
