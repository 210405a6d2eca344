-- The laws of the texts of generated chips.
use Rattle.std.specs.Prelude.{ℕ, ◌≡◌, ◌≤◌, map, Ok}
use Rattle.ca_cell.specs.Strength.{default_table}
use Rattle.ca_spice.specs.Reading.{library_of}
use Rattle.ca_spice.specs.Writing.{kept_as}
use Rattle.ca_verilog.specs.Text.{netlist_of}
use Rattle.ca_syntax.specs.Laws.{IsTreeOf}
use Rattle.ca_make.specs.declared.gate.TheConstants.{MOST_GATES}
use Rattle.ca_make.specs.LibraryText.{library_text}
use Rattle.ca_make.specs.NetlistText.{netlist_text}
use Rattle.ca_make_laws.specs.Cells.{cells}
use Rattle.ca_make_laws.specs.ChipNetlist.{chip_netlist}
use Rattle.ca_make_laws.specs.ChipTree.{chip_tree}

-- the text of the cells reads as the three cells
abbrev pub LibraryIsRead : Type 0
LibraryIsRead = library_of default_table library_text ≡ Ok (map (λ cell. kept_as cell.0 cell.1) cells)

-- the text of each generated chip reads as its netlist in numbers
abbrev pub NetlistIsRead : Type 0
NetlistIsRead = (n : ℕ) → n ≤ MOST_GATES → netlist_of (netlist_text n) ≡ Ok (chip_netlist n)

-- its tree has this text and this netlist, and is right
abbrev pub ChipHasTree : Type 0
ChipHasTree = (n : ℕ) → n ≤ MOST_GATES → IsTreeOf (netlist_text n) (chip_netlist n) (chip_tree n)
