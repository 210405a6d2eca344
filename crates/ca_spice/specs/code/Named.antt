-- The name of the subcircuit that is being read.
use Rattle.std.specs.Prelude.{ℕ, List, [], ◌∷◌, Option, Some, None}
use Rattle.ca_spice.specs.declared.open_cell.OpenCell.{OpenCell}

-- the name of the open subcircuit, if one is open
abbrev pub open_names : Option OpenCell → List (List ℕ)
open_names None = []
open_names (Some cell) = cell.name ∷ []
