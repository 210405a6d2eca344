-- A text has a reading, or a line or the number of its subcircuits is at fault.
use Rattle.std.proofs.Common.{◌≡◌, ℕ, List, Bool, true, false, cond, Option, Some, None, Result, Ok, Err}
use Rattle.std.proofs.Common.{refl, ap, ◌∙◌, length, map}
use Rattle.std.specs.Prelude.{nat_lt}
use Rattle.ca_lex.specs.declared.lines.Line.{Line}
use Rattle.ca_lex.specs.Lines.{spice_lines}
use Rattle.ca_lex.specs.FirstFault.{located, IsFirstFault}
use Rattle.ca_lex.proofs.FirstFaultLemmas as first
use Rattle.ca_cell.specs.declared.strength.StrengthTable.{StrengthTable}
use Rattle.ca_cell.specs.declared.library.TheConstants.{MOST_CELLS}
use Rattle.ca_spice.specs.declared.fault.SpiceKind.TheVariants.{Unended}
use Rattle.ca_spice.specs.declared.fault.SpiceFault.{SpiceFault}
use Rattle.ca_spice.specs.declared.fault.SpiceFault.TheVariants.{At, TooManyCells, NoMemory}
use Rattle.ca_spice.specs.declared.subcircuit.Subcircuit.{Subcircuit}
use Rattle.ca_spice.specs.OpenCell.{OpenCell}
use Rattle.ca_spice.specs.Reading.{Reading, Step, nothing, line_step, at_line, lines_from, resolved_cell, limited}
use Rattle.ca_spice.specs.Reading.{library_from, library_of}

not_limited : (cells : List Subcircuit) → limited cells ≡ Err NoMemory → ⊥
not_limited cells = by (nat_lt MOST_CELLS (length cells))
  where
    by : (many : Bool) → cond many (Err (TooManyCells (length cells))) (Ok (map resolved_cell cells)) ≡ Err NoMemory → ⊥
    by true reported = cc
    by false reported = cc

not_line : (here : Line) (step : Step)
    → elim step as (λ _. Result Reading SpiceFault) [ Ok next ↦ Ok next | Err reported ↦ Err (at_line here reported) ] ≡ Err NoMemory → ⊥
not_line here (Ok next) reported = cc
not_line here (Err kind) reported = cc

not_given : (table : StrengthTable) → (text : List ℕ) (given : Result Reading SpiceFault) → lines_from table nothing (spice_lines text) ≡ given
    → library_from given ≡ Err NoMemory → ⊥
unfolding library_from
not_given table text (Ok reading) read reported = by reading.current reported
  where
    by : (current : Option OpenCell)
        → elim current as (λ _. Result (List Subcircuit) SpiceFault) [ None ↦ limited reading.cells | Some cell ↦ Err (At cell.line Unended) ] ≡ Err NoMemory
        → ⊥
    by None reported = not_limited reading.cells reported
    by (Some cell) reported = cc
not_given table text (Err fault) read reported =
    let same : fault ≡ NoMemory = cc in
    let it : IsFirstFault (located at_line (line_step table)) nothing (spice_lines text) NoMemory =
    first.found (located at_line (line_step table)) nothing (spice_lines text) NoMemory (read ∙ ap (λ (f : SpiceFault). Err f) same) in
    not_line it.here (line_step table it.here it.so_far) it.broken

-- the definition of a reading never says that memory ran out
pub reading_has_memory : (table : StrengthTable) → (text : List ℕ) → library_of table text ≡ Err NoMemory → ⊥
reading_has_memory table text reported = not_given table text (lines_from table nothing (spice_lines text)) refl reported
