-- The subcircuit that a name has in the text of a cell netlist.
use Rattle.std.specs.Prelude.{ℕ, List, [], ◌∷◌, Option, Some, None, Ok, Err, if◌then◌else◌}
use Rattle.std.specs.Str.{bytes_eq}
use Rattle.ca_lex.specs.Words.{upper_case}
use Rattle.ca_cell.specs.declared.raw.RawCell.{RawCell}
use Rattle.ca_cell.specs.declared.strength.StrengthTable.{StrengthTable}
use Rattle.ca_spice.specs.declared.subcircuit.Subcircuit.{Subcircuit}
use Rattle.ca_spice.specs.Reading.{library_of}

-- the one of these subcircuits that has the name
abbrev pub called_among : List Subcircuit → List ℕ → Option RawCell
called_among [] name = None
called_among (cell ∷ more) name = if bytes_eq name cell.name then Some cell.raw else called_among more name

-- the subcircuit that a word names, in any case, where the text has a reading under the strength table and
-- its subcircuits are not too many
abbrev pub cell_called : StrengthTable → List ℕ → List ℕ → Option RawCell
cell_called table bytes word = elim (library_of table bytes) [
  | Ok cells ↦ called_among cells (upper_case word)
  | Err fault ↦ None
]
