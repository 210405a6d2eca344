-- A gate netlist with its tree and what it reads as.
use Rattle.std.specs.Prelude.{ℕ, ◌≡◌, List, [], ◌∷◌, ◌++◌, Some, None, Ok, codes}
use Rattle.ca_verilog.specs.declared.raw.RawBit.TheVariants.{Bit}
use Rattle.ca_verilog.specs.declared.raw.RawNetlist.{RawNetlist}
use Rattle.ca_verilog.specs.declared.table.Direction.TheVariants.{Input, Output, Inner}
use Rattle.ca_verilog.specs.Text.{netlist_of}
use Rattle.ca_syntax.specs.Tree.{Operand, Item, Module}
use Rattle.ca_syntax.specs.Laws.{IsTreeOf}

-- a text with each kind of item
abbrev pub example_text : List ℕ
example_text = codes "module m (a, z); input [1:0] a; output z; wire n; assign n = a[0]; "
    ++ codes "inv u (.a(n), .y(z), .q()); endmodule"

-- its tree
abbrev pub example_tree : Module
example_tree = record {
  name = codes "m";
  header = Some (codes "a" ∷ codes "z" ∷ []);
  items = Item.declaration (record {
    direction = Input;
    range = Some (record { left = 1; right = 0 });
    first = codes "a";
    more = [];
  })
      ∷ Item.declaration (record { direction = Output; range = None; first = codes "z"; more = [] })
      ∷ Item.declaration (record { direction = Inner; range = None; first = codes "n"; more = [] })
      ∷ Item.assign (record { left = Operand.whole (codes "n"); right = Operand.bit (codes "a") 0 })
      ∷ Item.instance (record {
        cell = codes "inv";
        name = codes "u";
        connections = record { pin = codes "a"; value = Some (Operand.whole (codes "n")) }
            ∷ record { pin = codes "y"; value = Some (Operand.whole (codes "z")) }
            ∷ record { pin = codes "q"; value = None } ∷ [];
      })
      ∷ [];
}

-- its netlist: bits 0 and 1 are those of `a`, from the left; 2 is `z`, and 3 is `n`
abbrev pub example_netlist : RawNetlist
example_netlist = record {
  buses = record { name = codes "a"; direction = Input; range = Some (1, 0) }
      ∷ record { name = codes "z"; direction = Output; range = None }
      ∷ record { name = codes "n"; direction = Inner; range = None } ∷ [];
  ports = 0 ∷ 1 ∷ [];
  joins = record { left = Bit 3; right = Bit 1 } ∷ [];
  instances = record {
    name = codes "u";
    cell = codes "INV";
    pins = record { pin = codes "A"; bit = Some (Bit 3) }
        ∷ record { pin = codes "Y"; bit = Some (Bit 2) }
        ∷ record { pin = codes "Q"; bit = None } ∷ [];
  }
      ∷ [];
}

-- the text is that of the tree, which is right and has this netlist; so it reads as this netlist
abbrev pub ExampleIsRead : Type 0
ExampleIsRead = IsTreeOf example_text example_netlist example_tree
    × (netlist_of example_text ≡ Ok example_netlist)
