-- What a cell netlist reads as under a strength table: its logical lines, one after another, and the first
-- rule that a line breaks.
use Rattle.std.specs.Prelude.{ℕ, nat_lt, Bool, true, false, not, ◌&&◌, ◌||◌, if◌then◌else◌, List, [], ◌∷◌}
use Rattle.std.specs.Prelude.{◌++◌, length, map, Option, Some, None, Result, Ok, Err}
use Rattle.std.specs.List.{list_all, list_any}
use Rattle.std.specs.Str.{bytes_eq}
use Rattle.ca_lex.specs.declared.lines.Line.{Line}
use Rattle.ca_lex.specs.Lines.{spice_lines}
use Rattle.ca_lex.specs.Words.{words_of, upper_case}
use Rattle.ca_lex.specs.FirstFault.{steps_from, located}
use Rattle.ca_lex.specs.Reading.{unless}
use Rattle.ca_cell.specs.declared.library.TheConstants.{MOST_CELLS}
use Rattle.ca_cell.specs.declared.strength.StrengthTable.{StrengthTable}
use Rattle.ca_spice.specs.declared.card.Card.{Card}
use Rattle.ca_spice.specs.declared.card.Card.TheVariants as card
use Rattle.ca_spice.specs.declared.fault.SpiceKind.{SpiceKind}
use Rattle.ca_spice.specs.declared.fault.SpiceKind.TheVariants.{NotText, UnknownCard, BadCard, DoubleName}
use Rattle.ca_spice.specs.declared.fault.SpiceKind.TheVariants.{Unended}
use Rattle.ca_spice.specs.declared.fault.SpiceFault.{SpiceFault}
use Rattle.ca_spice.specs.declared.fault.SpiceFault.TheVariants.{At, TooManyCells}
use Rattle.ca_spice.specs.declared.subcircuit.Subcircuit.{Subcircuit}
use Rattle.ca_pin_sets.specs.Resolved.{resolved}
use Rattle.ca_names.specs.Names.{has_double}
use Rattle.ca_spice.specs.Names.{is_text, is_name}
use Rattle.ca_spice.specs.Card.{card_of}
use Rattle.ca_spice.specs.Mos.{is_sign}
use Rattle.ca_spice.specs.OpenCell.{OpenCell, new_cell, pin_info, mos, resistor, ended}

-- what was read so far: the subcircuits, and the one whose .ENDS has not come
pub record Reading : Type 0 where
  pub cells : List Subcircuit
  pub current : Option OpenCell

-- a line's outcome: what was read with it, or the first rule that it breaks
abbrev pub Step : Type 0
Step = Result Reading SpiceKind

-- what is read before the first line
abbrev pub nothing : Reading
nothing = record { cells = []; current = None }

-- no subcircuit is open
abbrev pub is_outside : Reading → Bool
is_outside reading = elim reading.current [ None ↦ true | Some cell ↦ false ]

-- some subcircuit has the name
abbrev pub has_cell : List ℕ → List Subcircuit → Bool
has_cell name cells = list_any (λ cell. bytes_eq name cell.name) cells

-- the reading with this open subcircuit
abbrev pub with_open : Reading → OpenCell → Reading
with_open reading cell = record { cells = reading.cells; current = Some cell }

-- a word that may follow .SUBCKT
abbrev pub is_header_word : List ℕ → Bool
is_header_word word = is_name word && not (is_sign word)

-- the words after .SUBCKT: a name and one or more pins
abbrev pub is_header : List (List ℕ) → Bool
is_header [] = false
is_header (name ∷ []) = false
is_header (name ∷ pin ∷ pins) = list_all is_header_word (name ∷ pin ∷ pins)

-- a .SUBCKT with its name and its pins
unfoldable pub named : ℕ → List ℕ → List (List ℕ) → Reading → Step
named line name pins reading = unless (has_cell name reading.cells || has_double pins) DoubleName
    (Ok (with_open reading (new_cell line name pins)))

-- .SUBCKT begins a subcircuit; outside only
unfoldable pub subckt : ℕ → List (List ℕ) → Reading → Step
subckt line [] reading = Err BadCard
subckt line (name ∷ pins) reading =
    unless (not (is_outside reading) || not (is_header (name ∷ pins))) BadCard (named line name pins reading)

-- a card inside a subcircuit, which it changes
abbrev pub goes_on : Reading → Result OpenCell SpiceKind → Step
goes_on reading (Ok cell) = Ok (with_open reading cell)
goes_on reading (Err kind) = Err kind

abbrev pub in_cell : (OpenCell → Result OpenCell SpiceKind) → Reading → Step
in_cell step reading = elim reading.current [ None ↦ Err BadCard | Some cell ↦ goes_on reading (step cell) ]

-- .ENDS closes the open subcircuit
abbrev pub with_cell : Reading → Result Subcircuit SpiceKind → Step
with_cell reading (Ok cell) = Ok (record { cells = reading.cells ++ cell ∷ []; current = None })
with_cell reading (Err kind) = Err kind

unfoldable pub ends : List (List ℕ) → Reading → Step
ends words reading = elim reading.current [
  | None ↦ Err BadCard
  | Some cell ↦ with_cell reading
      (ended words cell)
]

-- each card, with its first word and those after it
unfoldable pub card_step : StrengthTable → Card → ℕ → List ℕ → List (List ℕ) → Reading → Step
card_step table card.Subckt line word words reading = subckt line words reading
card_step table card.Ends line word words reading = ends words reading
card_step table card.PinInfo line word words reading = in_cell (pin_info words) reading
card_step table card.Mos line word words reading = in_cell (mos table word words) reading
card_step table card.Resistor line word words reading = in_cell (resistor table word words) reading
card_step table card.Ignored line word words reading = Ok reading
card_step table card.Stray line word words reading = Err BadCard
card_step table card.Unknown line word words reading = Err UnknownCard

-- a continuation of nothing, which is reported before its bytes are judged
abbrev pub is_stray : Card → Bool
is_stray card.Stray = true
is_stray _ = false

-- a comment: roles of pins outside a subcircuit, whose bytes are not judged
abbrev pub is_comment : Card → Reading → Bool
is_comment card.PinInfo reading = is_outside reading
is_comment _ reading = false

-- a line of a card, which isn't a comment
abbrev pub judged : StrengthTable → Card → ℕ → List ℕ → List (List ℕ) → Reading → Step
judged table card line word words reading = unless (is_stray card) BadCard
    (unless (not (list_all is_text (word ∷ words))) NotText
    (card_step table card line word words reading))

-- a line of these words
unfoldable pub words_step : StrengthTable → ℕ → List (List ℕ) → Reading → Step
words_step table line [] reading = Ok reading
words_step table line (word ∷ words) reading = if is_comment (card_of word) reading then Ok reading
    else judged table (card_of word) line word words reading

-- what the next logical line makes of what was read; names and keywords are told apart in upper case
unfoldable pub line_step : StrengthTable → Line → Reading → Step
line_step table line reading = words_step table line.line (words_of (upper_case line.text)) reading

-- the fault of a line
abbrev pub at_line : Line → SpiceKind → SpiceFault
at_line line kind = At line.line kind

-- what these lines make of what was read; a fault is reported at the line that has it
abbrev pub lines_from : StrengthTable → Reading → List Line → Result Reading SpiceFault
lines_from table reading lines = steps_from (located at_line (line_step table)) reading lines

-- a subcircuit with the nets of each input pin's set written as the pin
abbrev pub resolved_cell : Subcircuit → Subcircuit
resolved_cell cell = record { name = cell.name; raw = resolved cell.raw }

-- a library has at most 1,024 subcircuits
abbrev pub limited : List Subcircuit → Result (List Subcircuit) SpiceFault
limited cells = if nat_lt MOST_CELLS (length cells) then Err (TooManyCells (length cells))
    else Ok (map resolved_cell cells)

-- the text may not end inside a subcircuit
unfoldable pub library_from : Result Reading SpiceFault → Result (List Subcircuit) SpiceFault
library_from (Ok reading) = elim reading.current [
  | None ↦ limited reading.cells
  | Some cell ↦ Err (At cell.line Unended)
]
library_from (Err fault) = Err fault

-- what a text reads as under a strength table, or else its first faulty line with the first rule that this
-- line breaks
abbrev pub library_of : StrengthTable → List ℕ → Result (List Subcircuit) SpiceFault
library_of table text = library_from (lines_from table nothing (spice_lines text))
