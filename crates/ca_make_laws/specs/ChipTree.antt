-- The syntax tree of a generated chip.
use Rattle.std.specs.Prelude.{ℕ, ◌+◌, List, [], ◌∷◌, ◌++◌, map, length, codes, Some, None}
use Rattle.std.specs.List.{range_with_len}
use Rattle.ca_verilog.specs.declared.table.Direction.{Direction}
use Rattle.ca_verilog.specs.declared.table.Direction.TheVariants.{Input, Output, Inner}
use Rattle.ca_syntax.specs.Tree.{Operand, Connection, Item, Module}
use Rattle.ca_make.specs.declared.gate.Gate.{Gate}
use Rattle.ca_make.specs.declared.gate.Gate.TheVariants as gate
use Rattle.ca_make.specs.declared.gate.TheConstants.{INPUTS}
use Rattle.ca_make.specs.Chip.{gates_of, unloaded}
use Rattle.ca_make.specs.NetlistText.{numbered, candidate, cell_of}

-- the names of these letters, as many as this
abbrev pub names_of : List ℕ → ℕ → List (List ℕ)
names_of letters count = map (numbered letters) (range_with_len 0 count)

-- a name alone, declared with a direction
abbrev pub declared : Direction → List ℕ → Item
declared direction name =
    Item.declaration (record { direction = direction; range = None; first = name; more = [] })

-- a pin with the name that is on it
abbrev pub on_pin : List ℕ → List ℕ → Connection
on_pin pin name = record { pin = pin; value = Some (Operand.whole name) }

-- two inputs with their pins
abbrev pub two_connections : ℕ → ℕ → List Connection
two_connections a b = on_pin (codes "A1") (candidate a) ∷ on_pin (codes "A2") (candidate b) ∷ []

-- the inputs of a gate with their pins
abbrev pub input_connections : Gate → List Connection
input_connections (gate.Inv a) = on_pin (codes "A") (candidate a) ∷ []
input_connections (gate.Nand2 a b) = two_connections a b
input_connections (gate.Nor2 a b) = two_connections a b

-- the instance of the gate of this number
abbrev pub instance_item : ℕ → Gate → Item
instance_item k it = Item.instance (record {
  cell = cell_of it;
  name = numbered (codes "u") k;
  connections = input_connections it ++ on_pin (codes "ZN") (numbered (codes "w") k) ∷ [];
})

-- the chip output of this number joined to the output of a gate
abbrev pub assign_item : ℕ → ℕ → Item
assign_item j k = Item.assign (record {
  left = Operand.whole (numbered (codes "o") j);
  right = Operand.whole (numbered (codes "w") k);
})

-- the item of each of these with its number, counted from this one
abbrev pub items_from : {X : Type 0} → (ℕ → X → Item) → ℕ → List X → List Item
items_from item k [] = []
items_from item k (x ∷ xs) = item k x ∷ items_from item (k + 1) xs

-- the declarations: the chip inputs, `outputs` outputs, and a wire for each of `gates` gates
abbrev pub declared_items : ℕ → ℕ → List Item
declared_items outputs gates = map (declared Input) (names_of (codes "i") INPUTS)
    ++ (map (declared Output) (names_of (codes "o") outputs)
    ++ map (declared Inner) (names_of (codes "w") gates))

-- the tree of a chip of these gates with these outputs
abbrev pub tree_of : List Gate → List ℕ → Module
tree_of gates outputs = record {
  name = codes "gen";
  header = Some (names_of (codes "i") INPUTS ++ names_of (codes "o") (length outputs));
  items = declared_items (length outputs) (length gates)
      ++ (items_from instance_item 0 gates ++ items_from assign_item 0 outputs);
}

-- the tree of the generated chip of a number
abbrev pub chip_tree : ℕ → Module
chip_tree n = tree_of (gates_of n) (unloaded (gates_of n))
