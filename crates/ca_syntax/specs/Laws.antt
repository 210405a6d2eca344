-- The laws of syntax trees.
use Rattle.std.specs.Prelude.{ℕ, ◌≡◌, ◌<◌, ◌≤◌, List, Ok, Err}
use Rattle.ca_verilog.specs.declared.fault.VerilogFault.TheVariants.{TooManyNets}
use Rattle.ca_verilog.specs.declared.netlist.TheConstants.{MOST_BITS}
use Rattle.ca_verilog.specs.declared.raw.RawNetlist.{RawNetlist}
use Rattle.ca_verilog.specs.IsNetlist.{bit_count}
use Rattle.ca_verilog.specs.Text.{netlist_of}
use Rattle.ca_syntax.specs.Tree.{Module, declarations}
use Rattle.ca_syntax.specs.Symbols.{IsTextOf}
use Rattle.ca_syntax.specs.Rules.{IsRight}
use Rattle.ca_syntax.specs.TreeNetlist.{buses_of, tree_netlist}

-- how many bits a tree declares
abbrev pub tree_bits : Module → ℕ
tree_bits tree = bit_count (buses_of (declarations tree.items))

-- the text of a tree whose names and ranges are right, with at most 131,072 bits, reads as its netlist
abbrev pub RightTreeIsRead : Type 0
RightTreeIsRead = (text : List ℕ) (tree : Module) → IsTextOf text tree → IsRight tree
    → tree_bits tree ≤ MOST_BITS → netlist_of text ≡ Ok (tree_netlist tree)

-- one with more bits is refused for their number
abbrev pub LargeTreeIsRefused : Type 0
LargeTreeIsRefused = (text : List ℕ) (tree : Module) → IsTextOf text tree → IsRight tree
    → MOST_BITS < tree_bits tree → netlist_of text ≡ Err (TooManyNets (tree_bits tree))

-- this tree has the text, is right, and has this netlist
pub record IsTreeOf (text : List ℕ) (netlist : RawNetlist) (tree : Module) : Type 0 where
  pub spelled : IsTextOf text tree
  pub right : IsRight tree
  pub few_bits : tree_bits tree ≤ MOST_BITS
  pub same : tree_netlist tree ≡ netlist

-- what a text reads as is the netlist of a right tree, of which it is the text
abbrev pub ReadTextHasTree : Type 0
ReadTextHasTree = (text : List ℕ) (netlist : RawNetlist) → netlist_of text ≡ Ok netlist
    → (tree : Module) × IsTreeOf text netlist tree

-- this tree has the text and is right, and declares `count` bits, which are too many
pub record IsLargeTreeOf (text : List ℕ) (count : ℕ) (tree : Module) : Type 0 where
  pub spelled : IsTextOf text tree
  pub right : IsRight tree
  pub many_bits : MOST_BITS < tree_bits tree
  pub same : tree_bits tree ≡ count

-- a text that is refused for its number of bits is that of a right tree with that many
abbrev pub LargeTextHasTree : Type 0
LargeTextHasTree = (text : List ℕ) (count : ℕ) → netlist_of text ≡ Err (TooManyNets count)
    → (tree : Module) × IsLargeTreeOf text count tree

-- the rules are no stricter than the reading: each tree whose text reads as a netlist is right
abbrev pub ReadTreeIsRight : Type 0
ReadTreeIsRight = (text : List ℕ) (tree : Module) (netlist : RawNetlist) → IsTextOf text tree
    → netlist_of text ≡ Ok netlist → IsRight tree

-- and so is each whose text is refused for its number of bits
abbrev pub LargeTreeIsRight : Type 0
LargeTreeIsRight = (text : List ℕ) (tree : Module) (count : ℕ) → IsTextOf text tree
    → netlist_of text ≡ Err (TooManyNets count) → IsRight tree
