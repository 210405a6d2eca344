-- Each subcircuit that a text reads as can be written.
use Rattle.std.proofs.Common.{◌≡◌, ℕ, Bool, true, false, inl, inr, ◌||◌, not, cond, List, [], ◌∷◌, ◌++◌, length, map}
use Rattle.std.proofs.Common.{Option, Some, None, Result, Ok, Err, refl, sym, ap, subst}
use Rattle.std.specs.Prelude.{nat_lt}
use Rattle.std.specs.List.{AllByRecursion, list_all}
use Rattle.std.proofs.lemmas.List.Elements.{All-contains, All-from_recursion}
use Rattle.ca_lex.specs.declared.lines.Line.{Line}
use Rattle.ca_lex.specs.Words.{words_of, upper_case}
use Rattle.ca_lex.specs.Lines.{spice_lines}
use Rattle.ca_lex.specs.FirstFault.{steps_from, located}
use Rattle.ca_lex.specs.Reading.{unless}
use Rattle.ca_cell.specs.declared.strength.StrengthTable.{StrengthTable}
use Rattle.ca_cell.specs.declared.library.TheConstants.{MOST_CELLS}
use Rattle.ca_cell.specs.declared.raw.RawPin.{RawPin}
use Rattle.ca_cell.specs.declared.raw.RawCell.{RawCell}
use Rattle.ca_spice.specs.declared.card.Card.{Card}
use Rattle.ca_spice.specs.declared.card.Card.TheVariants as card
use Rattle.ca_spice.specs.declared.fault.SpiceKind.{SpiceKind}
use Rattle.ca_spice.specs.declared.fault.SpiceKind.TheVariants.{NotText, BadCard, DoubleName, Unended}
use Rattle.ca_spice.specs.declared.fault.SpiceFault.{SpiceFault}
use Rattle.ca_spice.specs.declared.fault.SpiceFault.TheVariants.{At, TooManyCells}
use Rattle.ca_spice.specs.declared.pin.Pin.{Pin}
use Rattle.ca_spice.specs.declared.subcircuit.Subcircuit.{Subcircuit}
use Rattle.ca_names.specs.Names.{has_double}
use Rattle.ca_spice.specs.Names.{is_text, is_name}
use Rattle.ca_spice.specs.Mos.{is_sign, resistor_sizes}
use Rattle.ca_spice.specs.Card.{card_of}
use Rattle.ca_spice.specs.PinInfo as info
use Rattle.ca_spice.specs.OpenCell.{OpenCell, pin_of, new_cell, with_pins, has_roles, pin_info, mos, resistor}
use Rattle.ca_spice.specs.OpenCell.{pins_after, is_ended_by, subcircuit_with, ended}
use Rattle.ca_spice.specs.Reading.{Reading, Step, nothing, is_outside, has_cell, with_open, is_header_word, is_header, named}
use Rattle.ca_spice.specs.Reading.{subckt, goes_on, in_cell, with_cell, ends, card_step, is_stray, is_comment}
use Rattle.ca_spice.specs.Reading.{judged, words_step, line_step, at_line, lines_from, resolved_cell, limited, library_from}
use Rattle.ca_spice.specs.Writing.{pin_names, kept_as, IsReadable}
use Rattle.ca_spice.proofs.SpelledLemmas.{IsSpelled, all_append}
use Rattle.ca_spice.proofs.ShownLemmas.{IsShownText, words_spelled, lines_shown}
use Rattle.ca_spice.proofs.PinLemmas.{left_true, right_true}
use Rattle.ca_spice.proofs.CardLemmas.{IsNameWord, kept_rule, kept_value, mos_found, wiring_found, resistor_found}
use Rattle.ca_spice.proofs.CardLemmas.{ends_found}
use Rattle.ca_spice.proofs.DistinctLemmas.{names_begun}
use Rattle.ca_spice.proofs.WritableLemmas.{IsWritable, first_step, transistor_of, resistor_of, writable_grown}
use Rattle.ca_spice.proofs.WritableLemmas.{names_shown, pin_info_names, after_names}
use Rattle.ca_spice.proofs.ResolvedLemmas.{writable_resolved}

-- a subcircuit that was read can be written
abbrev pub IsWritableCell : (table : StrengthTable) → Subcircuit → Type 0
IsWritableCell table cell = IsWritable table cell.name (pin_names cell.raw.pins) cell.raw.nets cell.raw.devices

-- so can one that is being read, once its pins have roles
abbrev pub IsWritableOpen : (table : StrengthTable) → Option OpenCell → Type 0
IsWritableOpen table None = Unit {0}
IsWritableOpen table (Some cell) = IsWritable table cell.name (names_shown cell.pins) cell.nets cell.devices

pub record IsWritableReading (table : StrengthTable) (reading : Reading) : Type 0 where
  pub cells : AllByRecursion (IsWritableCell table) reading.cells
  pub current : IsWritableOpen table reading.current

-- what was read, with another subcircuit that is being read
reopened : (table : StrengthTable) → (reading next : Reading) (cell : OpenCell) → next ≡ with_open reading cell → AllByRecursion (IsWritableCell table) reading.cells → IsWritableOpen table (Some cell) → IsWritableReading table next
reopened table reading next cell is cells current = subst (IsWritableReading table) (sym is) (record { cells = cells; current = current })

names_given : (names : List (List ℕ)) → names_shown (map pin_of names) ≡ names
names_given [] = refl
names_given (name ∷ names) = ap (λ (more : List (List ℕ)). name ∷ more) (names_given names)

second_kept : (first second : Bool) → (not first || not second) ≡ false → second ≡ true
second_kept true true is = refl
second_kept true false is = absurd cc
second_kept false second is = absurd cc

second_false : (first second : Bool) → (first || second) ≡ false → second ≡ false
second_false true second is = absurd cc
second_false false second is = is

-- the words of a header are names
words_named : (words : List (List ℕ)) → AllByRecursion IsSpelled words → list_all is_header_word words ≡ true → AllByRecursion IsNameWord words
words_named [] all header = tt
words_named (word ∷ words) all header = (
  record { spelled = all.0; name = left_true (is_name word) (not (is_sign word)) (left_true (is_header_word word) (list_all is_header_word words) header) },
  words_named words all.1 (right_true (is_header_word word) (list_all is_header_word words) header),
)

header_named : (name : List ℕ) (pins : List (List ℕ)) → is_header (name ∷ pins) ≡ true → AllByRecursion IsSpelled pins → AllByRecursion IsNameWord pins
header_named name [] header all = tt
header_named name (pin ∷ pins) header all = words_named (pin ∷ pins) all (right_true (is_header_word name) (list_all is_header_word (pin ∷ pins)) header)

-- a subcircuit without devices
begun : (table : StrengthTable) → (name : List ℕ) (pins : List (List ℕ)) → IsSpelled name → is_header (name ∷ pins) ≡ true → AllByRecursion IsSpelled pins → has_double pins ≡ false → IsWritable table name pins pins []
begun table name pins name_is header spelled distinct = record {
  named = name_is;
  header = header;
  spelled = spelled;
  distinct = distinct;
  cards = tt;
  order = refl;
  names = names_begun pins (header_named name pins header spelled) distinct;
}

named_step : (table : StrengthTable) → (line : ℕ) (name : List ℕ) (pins : List (List ℕ)) (reading next : Reading) → named line name pins reading ≡ Ok next → IsWritableReading table reading
    → IsSpelled name → is_header (name ∷ pins) ≡ true → AllByRecursion IsSpelled pins → IsWritableReading table next
unfolding named
named_step table line name pins reading next is before name_is header spelled =
    let value = kept_value (has_cell name reading.cells || has_double pins) DoubleName (with_open reading (new_cell line name pins)) next is in
    let cell : IsWritable table name pins pins [] = begun table name pins name_is header spelled (second_false (has_cell name reading.cells) (has_double pins) value.0) in
    reopened table reading next (new_cell line name pins) value.1 before.cells
    (subst (λ (names : List (List ℕ)). IsWritable table name names pins []) (sym (names_given pins)) cell)

subckt_step : (table : StrengthTable) → (line : ℕ) (words : List (List ℕ)) (reading next : Reading) → subckt line words reading ≡ Ok next → IsWritableReading table reading → AllByRecursion IsSpelled words → IsWritableReading table next
unfolding subckt
subckt_step table line [] reading next is before all = absurd cc
subckt_step table line (name ∷ pins) reading next is before all =
    let rule = kept_rule (not (is_outside reading) || not (is_header (name ∷ pins))) BadCard (named line name pins reading) next is in
    named_step table line name pins reading next rule.1 before all.0 (second_kept (is_outside reading) (is_header (name ∷ pins)) rule.0) all.1

-- what a card made of the subcircuit that is being read
record IsInCell (step : OpenCell → Result OpenCell SpiceKind) (reading next : Reading) : Type 0 where
  cell : OpenCell
  after : OpenCell
  is_open : reading.current ≡ Some cell
  stepped : step cell ≡ Ok after
  is : next ≡ with_open reading after

in_cell_found : (step : OpenCell → Result OpenCell SpiceKind) (reading next : Reading) → in_cell step reading ≡ Ok next → IsInCell step reading next
in_cell_found step reading next is = by reading.current refl is
  where
    by_step : (cell : OpenCell) → reading.current ≡ Some cell → (given : Result OpenCell SpiceKind) → step cell ≡ given → goes_on reading given ≡ Ok next → IsInCell step reading next
    by_step cell is_open (Ok after) stepped is = record { cell = cell; after = after; is_open = is_open; stepped = stepped; is = cc }
    by_step cell is_open (Err kind) stepped is = absurd cc

    by : (current : Option OpenCell) → reading.current ≡ current
        → elim current as (λ _. Step) [ None ↦ Err BadCard | Some cell ↦ goes_on reading (step cell) ] ≡ Ok next → IsInCell step reading next
    by None is_open is = absurd cc
    by (Some cell) is_open is = by_step cell is_open (step cell) refl is

mos_step : (table : StrengthTable) → (word : List ℕ) (words : List (List ℕ)) (cell after : OpenCell) → mos table word words cell ≡ Ok after → card_of word ≡ card.Mos → IsSpelled word → AllByRecursion IsSpelled words
    → IsWritableOpen table (Some cell) → IsWritableOpen table (Some after)
mos_step table word words cell after is card_is word_is all before =
    let it = mos_found table word words cell after is in
    let wired = wiring_found word words it.wiring it.wired all in
    subst (λ (c : OpenCell). IsWritableOpen table (Some c)) (sym it.is)
    (writable_grown table cell.name (names_shown cell.pins) cell.nets cell.devices word it.wiring it.sizes before (record { spelled = word_is; name = wired.wired.name_is })
    wired.wired (inl (transistor_of table word it.wiring it.sizes cell.nets card_is wired.kind it.sized)) it.new)

resistor_step : (table : StrengthTable) → (word : List ℕ) (words : List (List ℕ)) (cell after : OpenCell) → resistor table word words cell ≡ Ok after → card_of word ≡ card.Resistor → IsSpelled word
    → AllByRecursion IsSpelled words → IsWritableOpen table (Some cell) → IsWritableOpen table (Some after)
resistor_step table word words cell after is card_is word_is all before =
    let it = resistor_found table word words cell after is in
    let wired = ends_found word words it.wiring it.wired all in
    subst (λ (c : OpenCell). IsWritableOpen table (Some c)) (sym it.is)
    (writable_grown table cell.name (names_shown cell.pins) cell.nets cell.devices word it.wiring resistor_sizes before (record { spelled = word_is; name = wired.wired.name_is })
    wired.wired (inr (resistor_of table word it.wiring cell.nets card_is wired.kind wired.gate)) it.new)

roles_step : (table : StrengthTable) → (words : List (List ℕ)) (cell after : OpenCell) → pin_info words cell ≡ Ok after → IsWritableOpen table (Some cell) → IsWritableOpen table (Some after)
unfolding pin_info
roles_step table words cell after is before = by (info.pin_info cell.nets words cell.pins) refl is
  where
    by : (given : Result (List Pin) SpiceKind) → info.pin_info cell.nets words cell.pins ≡ given → has_roles cell given ≡ Ok after → IsWritableOpen table (Some after)
    by (Ok pins) read is =
        let same : after ≡ with_pins cell pins = cc in
        subst (λ (c : OpenCell). IsWritableOpen table (Some c)) (sym same)
        (subst (λ (names : List (List ℕ)). IsWritable table cell.name names cell.nets cell.devices) (sym (pin_info_names cell.nets words cell.pins pins read)) before)
    by (Err kind) read is = absurd cc

ended_step : (table : StrengthTable) → (words : List (List ℕ)) (cell : OpenCell) (made : Subcircuit) → ended words cell ≡ Ok made → IsWritableOpen table (Some cell) → IsWritableCell table made
unfolding ended
ended_step table words cell made is before =
    by (pins_after [] cell.pins) refl (kept_rule (not (is_ended_by words cell.name)) BadCard (subcircuit_with cell (pins_after [] cell.pins)) made is).1
  where
    by : (given : Option (List RawPin)) → pins_after [] cell.pins ≡ given → subcircuit_with cell given ≡ Ok made → IsWritableCell table made
    by None found is = absurd cc
    by (Some pins) found is =
        let same : made ≡ record { name = cell.name; raw = record { pins = pins; nets = cell.nets; devices = cell.devices } } = cc in
        subst (IsWritableCell table) (sym same)
        (subst (λ (names : List (List ℕ)). IsWritable table cell.name names cell.nets cell.devices) (sym (after_names [] cell.pins pins found)) before)

ends_step : (table : StrengthTable) → (words : List (List ℕ)) (reading next : Reading) → ends words reading ≡ Ok next → IsWritableReading table reading → IsWritableReading table next
unfolding ends
ends_step table words reading next is before = by reading.current refl is
  where
    by_made : (cell : OpenCell) → reading.current ≡ Some cell → (given : Result Subcircuit SpiceKind) → ended words cell ≡ given → with_cell reading given ≡ Ok next → IsWritableReading table next
    by_made cell is_open (Ok made) found is =
        let same : next ≡ record { cells = reading.cells ++ made ∷ []; current = None } = cc in
        subst (IsWritableReading table) (sym same) (record {
          cells = all_append (IsWritableCell table) reading.cells (made ∷ []) before.cells (ended_step table words cell made found (subst (IsWritableOpen table) is_open before.current), tt);
          current = tt;
        })
    by_made cell is_open (Err kind) found is = absurd cc

    by : (current : Option OpenCell) → reading.current ≡ current
        → elim current as (λ _. Step) [ None ↦ Err BadCard | Some cell ↦ with_cell reading (ended words cell) ] ≡ Ok next → IsWritableReading table next
    by None is_open is = absurd cc
    by (Some cell) is_open is = by_made cell is_open (ended words cell) refl is

card_made : (table : StrengthTable) → (kind : Card) (line : ℕ) (word : List ℕ) (words : List (List ℕ)) (reading next : Reading) → card_of word ≡ kind → card_step table kind line word words reading ≡ Ok next
    → IsWritableReading table reading → IsSpelled word → AllByRecursion IsSpelled words → IsWritableReading table next
unfolding card_step
card_made table card.Subckt line word words reading next card_is is before word_is all = subckt_step table line words reading next is before all
card_made table card.Ends line word words reading next card_is is before word_is all = ends_step table words reading next is before
card_made table card.PinInfo line word words reading next card_is is before word_is all =
    let it = in_cell_found (pin_info words) reading next is in
    reopened table reading next it.after it.is before.cells (roles_step table words it.cell it.after it.stepped (subst (IsWritableOpen table) it.is_open before.current))
card_made table card.Mos line word words reading next card_is is before word_is all =
    let it = in_cell_found (mos table word words) reading next is in
    reopened table reading next it.after it.is before.cells (mos_step table word words it.cell it.after it.stepped card_is word_is all (subst (IsWritableOpen table) it.is_open before.current))
card_made table card.Resistor line word words reading next card_is is before word_is all =
    let it = in_cell_found (resistor table word words) reading next is in
    reopened table reading next it.after it.is before.cells (resistor_step table word words it.cell it.after it.stepped card_is word_is all (subst (IsWritableOpen table) it.is_open before.current))
card_made table card.Ignored line word words reading next card_is is before word_is all =
    let same : next ≡ reading = cc in
    subst (IsWritableReading table) (sym same) before
card_made table card.Stray line word words reading next card_is is before word_is all = absurd cc
card_made table card.Unknown line word words reading next card_is is before word_is all = absurd cc

not_false : (x : Bool) → not x ≡ false → x ≡ true
not_false true is = refl
not_false false is = absurd cc

words_made : (table : StrengthTable) → (line : ℕ) (words : List (List ℕ)) (reading next : Reading) → words_step table line words reading ≡ Ok next → IsWritableReading table reading
    → (list_all is_text words ≡ true → AllByRecursion IsSpelled words) → IsWritableReading table next
unfolding words_step
words_made table line [] reading next is before spelled =
    let same : next ≡ reading = cc in
    subst (IsWritableReading table) (sym same) before
words_made table line (word ∷ words) reading next is before spelled = by (is_comment (card_of word) reading) is
  where
    by : (comment : Bool) → cond comment (Ok reading) (judged table (card_of word) line word words reading) ≡ Ok next → IsWritableReading table next
    by true is =
        let same : next ≡ reading = cc in
        subst (IsWritableReading table) (sym same) before
    by false is =
        let formed = kept_rule (is_stray (card_of word)) BadCard (unless (not (list_all is_text (word ∷ words))) NotText (card_step table (card_of word) line word words reading)) next is in
        let text = kept_rule (not (list_all is_text (word ∷ words))) NotText (card_step table (card_of word) line word words reading) next formed.1 in
        let all : AllByRecursion IsSpelled (word ∷ words) = spelled (not_false (list_all is_text (word ∷ words)) text.0) in
        card_made table (card_of word) line word words reading next refl text.1 before all.0 all.1

line_made : (table : StrengthTable) → (line : Line) (reading next : Reading) → IsShownText line → line_step table line reading ≡ Ok next → IsWritableReading table reading → IsWritableReading table next
unfolding line_step
line_made table line reading next shown is before = words_made table line.line (words_of (upper_case line.text)) reading next is before (words_spelled line.text shown)

stepped_at : (line : Line) (given : Step) (next : Reading) → elim given as (λ _. Result Reading SpiceFault) [ Ok later ↦ Ok later | Err kind ↦ Err (at_line line kind) ] ≡ Ok next → given ≡ Ok next
stepped_at line (Ok later) next is = cc
stepped_at line (Err kind) next is = absurd cc

lines_made : (table : StrengthTable) → (lines : List Line) (reading last : Reading) → AllByRecursion IsShownText lines → lines_from table reading lines ≡ Ok last → IsWritableReading table reading → IsWritableReading table last
unfolding steps_from
lines_made table [] reading last shown is before =
    let same : last ≡ reading = cc in
    subst (IsWritableReading table) (sym same) before
lines_made table (line ∷ lines) reading last shown is before =
    let first = first_step (located at_line (line_step table)) reading last line lines is in
    lines_made table lines first.next last shown.1 first.rest
    (line_made table line reading first.next shown.0 (stepped_at line (line_step table line reading) first.next first.stepped) before)

limited_cells : (cells read : List Subcircuit) → limited cells ≡ Ok read → read ≡ map resolved_cell cells
limited_cells cells read is = by (nat_lt MOST_CELLS (length cells)) is
  where
    by : (many : Bool) → cond many (Err (TooManyCells (length cells))) (Ok (map resolved_cell cells)) ≡ Ok read → read ≡ map resolved_cell cells
    by true is = absurd cc
    by false is = cc

-- with the nets of input pins' sets written as the pins, subcircuits can be written too
all_resolved : (table : StrengthTable) → (cells : List Subcircuit) → AllByRecursion (IsWritableCell table) cells → AllByRecursion (IsWritableCell table) (map resolved_cell cells)
all_resolved table [] all = tt
all_resolved table (cell ∷ cells) all = (writable_resolved table cell.name cell.raw all.0, all_resolved table cells all.1)

library_made : (table : StrengthTable) → (given : Result Reading SpiceFault) (cells : List Subcircuit) → library_from given ≡ Ok cells → ((reading : Reading) → given ≡ Ok reading → IsWritableReading table reading)
    → AllByRecursion (IsWritableCell table) cells
unfolding library_from
library_made table (Ok reading) cells is made = by reading.current is
  where
    by : (current : Option OpenCell) → elim current as (λ _. Result (List Subcircuit) SpiceFault) [ None ↦ limited reading.cells | Some cell ↦ Err (At cell.line Unended) ] ≡ Ok cells
        → AllByRecursion (IsWritableCell table) cells
    by None is = subst (AllByRecursion (IsWritableCell table)) (sym (limited_cells reading.cells cells is)) (all_resolved table reading.cells (made reading refl).cells)
    by (Some cell) is = absurd cc
library_made table (Err fault) cells is made = absurd cc

-- what some text reads as can be written
pub readable_writable : (table : StrengthTable) → (name : List ℕ) (raw : RawCell) → IsReadable table name raw → IsWritable table (upper_case name) (pin_names raw.pins) raw.nets raw.devices
readable_writable table name raw it =
    let all : AllByRecursion (IsWritableCell table) it.cells =
    library_made table (lines_from table nothing (spice_lines it.text)) it.cells it.read
    (λ (reading : Reading) (is : lines_from table nothing (spice_lines it.text) ≡ Ok reading).
    lines_made table (spice_lines it.text) nothing reading (lines_shown it.text) is (record { cells = tt; current = tt })) in
    All-contains (IsWritableCell table) it.cells (kept_as name raw) (All-from_recursion (IsWritableCell table) it.cells all) it.holds
