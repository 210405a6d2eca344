-- The first faulty line of a text, in a reader's words.
use Rattle.std.specs.Prelude.{ℕ, ◌≡◌, ◌⊎◌, List, ◌∷◌, ◌++◌, Some, Ok, Err}
use Rattle.ca_lex.specs.declared.lines.Line.{Line}
use Rattle.ca_lex.specs.Lines.{spice_lines}
use Rattle.ca_spice.specs.declared.fault.SpiceKind.{SpiceKind}
use Rattle.ca_spice.specs.declared.fault.SpiceKind.TheVariants.{Unended}
use Rattle.ca_cell.specs.declared.strength.StrengthTable.{StrengthTable}
use Rattle.ca_spice.specs.OpenCell.{OpenCell}
use Rattle.ca_spice.specs.Reading.{Reading, nothing, line_step, lines_from}

-- the logical lines before `here` are read without a fault, and `here`, which has this number, breaks a rule
-- of this kind
pub record BreaksRule (table : StrengthTable) (text : List ℕ) (line : ℕ) (kind : SpiceKind) : Type 0 where
  pub before : List Line
  pub here : Line
  pub after : List Line
  pub so_far : Reading
  pub whole : spice_lines text ≡ before ++ here ∷ after
  pub number : here.line ≡ line
  pub read : lines_from table nothing before ≡ Ok so_far
  pub broken : line_step table here so_far ≡ Err kind

-- all lines are read without a fault, and the subcircuit that this line begins is open then
pub record IsUnended (table : StrengthTable) (text : List ℕ) (line : ℕ) (kind : SpiceKind) : Type 0 where
  pub so_far : Reading
  pub cell : OpenCell
  pub read : lines_from table nothing (spice_lines text) ≡ Ok so_far
  pub is_open : so_far.current ≡ Some cell
  pub number : cell.line ≡ line
  pub unended : kind ≡ Unended

-- the first faulty line of a text: it breaks a rule after the lines before it were read, or it begins a
-- subcircuit in which a text with no such line ends
abbrev pub IsFirstFaulty : StrengthTable → List ℕ → ℕ → SpiceKind → Type 0
IsFirstFaulty table text line kind = BreaksRule table text line kind ⊎ IsUnended table text line kind
