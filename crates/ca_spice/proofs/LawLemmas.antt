-- The first faulty line.
use Rattle.std.proofs.Common.{◌≡◌, ℕ, List, Bool, true, false, cond, Option, Some, None, Result, Ok, Err}
use Rattle.std.proofs.Common.{refl, sym, ap, ◌∙◌, inl, inr, length, map}
use Rattle.std.specs.Prelude.{nat_lt}
use Rattle.ca_lex.specs.declared.lines.Line.{Line}
use Rattle.ca_lex.specs.Lines.{spice_lines}
use Rattle.ca_lex.specs.FirstFault.{located, IsFirstFault}
use Rattle.ca_lex.proofs.FirstFaultLemmas as first
use Rattle.ca_cell.specs.declared.strength.StrengthTable.{StrengthTable}
use Rattle.ca_cell.specs.declared.library.TheConstants.{MOST_CELLS}
use Rattle.ca_spice.specs.declared.fault.SpiceKind.{SpiceKind}
use Rattle.ca_spice.specs.declared.fault.SpiceKind.TheVariants.{Unended}
use Rattle.ca_spice.specs.declared.fault.SpiceFault.{SpiceFault}
use Rattle.ca_spice.specs.declared.fault.SpiceFault.TheVariants.{At, TooManyCells}
use Rattle.ca_spice.specs.declared.subcircuit.Subcircuit.{Subcircuit}
use Rattle.ca_spice.specs.OpenCell.{OpenCell}
use Rattle.ca_spice.specs.Reading.{Reading, Step, nothing, line_step, at_line, lines_from, resolved_cell, limited}
use Rattle.ca_spice.specs.Reading.{library_from, library_of}
use Rattle.ca_spice.specs.Laws.{IsFirstFaulty}

-- a located step that has a fault has it at its line
broken_at : (here : Line) (line : ℕ) (kind : SpiceKind) (step : Step)
    → elim step as (λ _. Result Reading SpiceFault) [ Ok next ↦ Ok next | Err reported ↦ Err (at_line here reported) ] ≡ Err (At line kind)
    → (step ≡ Err kind) × (here.line ≡ line)
broken_at here line kind (Ok next) reported = absurd cc
broken_at here line kind (Err other) reported = (cc, cc)

-- too many subcircuits are no fault of a line
not_limited : (cells : List Subcircuit) (line : ℕ) (kind : SpiceKind) → limited cells ≡ Err (At line kind) → ⊥
not_limited cells line kind = by (nat_lt MOST_CELLS (length cells))
  where
    by : (many : Bool) → cond many (Err (TooManyCells (length cells))) (Ok (map resolved_cell cells)) ≡ Err (At line kind) → ⊥
    by true reported = cc
    by false reported = cc

found_open : (table : StrengthTable) → (text : List ℕ) (line : ℕ) (kind : SpiceKind) (reading : Reading) → lines_from table nothing (spice_lines text) ≡ Ok reading
    → (current : Option OpenCell) → reading.current ≡ current
    → elim current as (λ _. Result (List Subcircuit) SpiceFault) [ None ↦ limited reading.cells | Some cell ↦ Err (At cell.line Unended) ] ≡ Err (At line kind)
    → IsFirstFaulty table text line kind
found_open table text line kind reading read None is reported = absurd (not_limited reading.cells line kind reported)
found_open table text line kind reading read (Some cell) is reported =
    inr (record { so_far = reading; cell = cell; read = read; is_open = is; number = cc; unended = cc })

found_in : (table : StrengthTable) → (text : List ℕ) (line : ℕ) (kind : SpiceKind) (given : Result Reading SpiceFault) → lines_from table nothing (spice_lines text) ≡ given
    → library_from given ≡ Err (At line kind) → IsFirstFaulty table text line kind
unfolding library_from
found_in table text line kind (Ok reading) read reported = found_open table text line kind reading read reading.current refl reported
found_in table text line kind (Err fault) read reported =
    let same : fault ≡ At line kind = cc in
    let it : IsFirstFault (located at_line (line_step table)) nothing (spice_lines text) (At line kind) =
    first.found (located at_line (line_step table)) nothing (spice_lines text) (At line kind) (read ∙ ap (λ (f : SpiceFault). Err f) same) in
    let at : (line_step table it.here it.so_far ≡ Err kind) × (it.here.line ≡ line) =
    broken_at it.here line kind (line_step table it.here it.so_far) it.broken in
    inl (record {
      before = it.before;
      here = it.here;
      after = it.after;
      so_far = it.so_far;
      whole = it.whole;
      number = at.1;
      read = it.read;
      broken = at.0;
    })

-- a fault at a line is that of the first faulty line
pub found : (table : StrengthTable) → (text : List ℕ) (line : ℕ) (kind : SpiceKind) → library_of table text ≡ Err (At line kind) → IsFirstFaulty table text line kind
found table text line kind reported = found_in table text line kind (lines_from table nothing (spice_lines text)) refl reported

-- the first faulty line gives its fault
pub only : (table : StrengthTable) → (text : List ℕ) (line : ℕ) (kind : SpiceKind) → IsFirstFaulty table text line kind → library_of table text ≡ Err (At line kind)
unfolding library_from
only table text line kind (inl it) =
    let at : located at_line (line_step table) it.here it.so_far ≡ Err (At line kind) =
    ap (λ (step : Step). elim step as (λ _. Result Reading SpiceFault) [ Ok next ↦ Ok next | Err reported ↦ Err (at_line it.here reported) ]) it.broken
    ∙ ap (λ (n : ℕ). Err (At n kind)) it.number in
    let read : lines_from table nothing (spice_lines text) ≡ Err (At line kind) =
    first.only (located at_line (line_step table)) nothing (spice_lines text) (At line kind)
    (record { before = it.before; here = it.here; after = it.after; so_far = it.so_far; whole = it.whole; read = it.read; broken = at }) in
    ap library_from read
only table text line kind (inr it) =
    ap library_from it.read
    ∙ ap (λ (current : Option OpenCell). elim current as (λ _. Result (List Subcircuit) SpiceFault) [ None ↦ limited it.so_far.cells | Some cell ↦ Err (At cell.line Unended) ]) it.is_open
    ∙ ap (λ (n : ℕ). Err (At n Unended)) it.number
    ∙ ap (λ (k : SpiceKind). Err (At line k)) (sym it.unended)
