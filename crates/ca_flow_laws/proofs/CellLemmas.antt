-- What is reported of a command on a cell is one fault.
use Rattle.std.proofs.Common.{ℕ, ◌≡◌, ◌⊎◌, ◌∙◌, inl, inr, refl, sym, ap, subst, arith, List}
use Rattle.std.proofs.Common.{Option, Some, None, Result, Ok, Err, true≢false}
use Rattle.std.specs.Prelude.{IsNone, IsOk, IsSomeAnd}
use Rattle.ca_lex.specs.Words.{upper_case}
use Rattle.ca_store.specs.Store.{Files}
use Rattle.ca_cell.specs.declared.raw.RawCell.{RawCell}
use Rattle.ca_cell.specs.declared.strength.StrengthTable.{StrengthTable}
use Rattle.ca_cell.specs.declared.rule.CellRule.{CellRule}
use Rattle.ca_cell.specs.Rules.{KeepsRules}
use Rattle.ca_spice.specs.declared.fault.SpiceFault.{SpiceFault}
use Rattle.ca_spice.specs.declared.fault.SpiceFault.TheVariants as spice
use Rattle.ca_spice.specs.Reading.{library_of}
use Rattle.ca_spice.specs.Called.{called_among}
use Rattle.ca_load.specs.Texts.{IsCellFile, OfCells}
use Rattle.ca_load.specs.Causes.{IsTextCause, IsCellsCause}
use Rattle.ca_load.proofs.RuleLemmas.{one_broken}
use Rattle.ca_fault_place.specs.Place.{rule_text}
use Rattle.ca_fault.specs.declared.fault.LimitKind.TheVariants as limit
use Rattle.ca_fault.specs.declared.fault.Fault.{Fault}
use Rattle.ca_fault.specs.declared.fault.Fault.TheVariants.{Cells, NoCell, Cell, BadVector, NoDefect, Limit}
use Rattle.ca_words.specs.Words.{cell_files, cell_word, vector_word, first_word, last_word, defect_word, dash}
use Rattle.ca_words.specs.Words.{IsRespond, IsPair}
use Rattle.ca_on_cell.specs.Cells.{HasCell, LacksCell}
use Rattle.ca_on_cell.specs.Causes.{BreaksAt, IsNameCause, IsFirstUnfit, LacksDefect}
use Rattle.ca_on_cell.specs.Causes.{IsPairCause, IsVectorCause}
use Rattle.ca_on_cell.specs.Causes.{IsCellCause, IsValueCause}
use Rattle.ca_flow_laws.specs.Same.{IsInputFault}
use Rattle.ca_flow_laws.proofs.StrengthsLemmas.{AtCells, one_at_cells, of_cells_text, of_cells_read, of_table as of_strengths}

-- the words ask for these vectors and this defect
abbrev pub AreAsked : List (List ℕ) → List ℕ → List ℕ → List ℕ → Type 0
AreAsked words first last defect =
    (IsRespond words × ((first ≡ vector_word words) × ((last ≡ vector_word words) × (defect ≡ dash))))
    ⊎ (IsPair words × ((first ≡ first_word words) × ((last ≡ last_word words) × (defect ≡ defect_word words))))

pub respond_or_pair : (words : List (List ℕ)) → IsRespond words → IsPair words → ⊥
respond_or_pair words respond pair = let four = respond.four in let six = pair.six in omega (arith, four, six)

-- words ask for one pair of vectors and one defect
one_asked : (words : List (List ℕ)) (first last defect again later other : List ℕ) → AreAsked words first last defect
    → AreAsked words again later other → (first ≡ again) × ((last ≡ later) × (defect ≡ other))
one_asked words first last defect again later other (inl here) (inl there) =
    (here.1.0 ∙ sym there.1.0, (here.1.1.0 ∙ sym there.1.1.0, here.1.1.1 ∙ sym there.1.1.1))
one_asked words first last defect again later other (inl here) (inr there) = absurd (respond_or_pair words here.0 there.0)
one_asked words first last defect again later other (inr here) (inl there) = absurd (respond_or_pair words there.0 here.0)
one_asked words first last defect again later other (inr here) (inr there) =
    (here.1.0 ∙ sym there.1.0, (here.1.1.0 ∙ sym there.1.1.0, here.1.1.1 ∙ sym there.1.1.1))

-- the subcircuit that was found breaks a rule
pub record BreaksOne (words : List (List ℕ)) (raw : RawCell) (fault : Fault) : Type 0 where
  pub rule : CellRule
  pub place : List ℕ
  pub breaks : BreaksAt rule place raw
  pub is : fault ≡ Cell (upper_case (cell_word words)) rule place

-- it breaks none, and a vector doesn't fit
pub record Misfits (words : List (List ℕ)) (raw : RawCell) (fault : Fault) : Type 0 where
  pub first : List ℕ
  pub last : List ℕ
  pub defect : List ℕ
  pub typed : List ℕ
  pub asked : AreAsked words first last defect
  pub kept : KeepsRules raw
  pub unfit : IsFirstUnfit raw first last typed
  pub is : fault ≡ BadVector typed

-- the vectors fit, and it lacks the defect
pub record LacksOne (words : List (List ℕ)) (raw : RawCell) (fault : Fault) : Type 0 where
  pub first : List ℕ
  pub last : List ℕ
  pub defect : List ℕ
  pub asked : AreAsked words first last defect
  pub kept : KeepsRules raw
  pub lacks : LacksDefect raw first last defect
  pub is : fault ≡ NoDefect defect

abbrev pub AtCell : List (List ℕ) → RawCell → Fault → Type 0
AtCell words raw fault = BreaksOne words raw fault ⊎ (Misfits words raw fault ⊎ LacksOne words raw fault)

-- one vector is the first that doesn't fit
one_unfit : (raw : RawCell) (first last typed other : List ℕ) → IsFirstUnfit raw first last typed → IsFirstUnfit raw first last other
    → typed ≡ other
one_unfit raw first last typed other (inl here) (inl there) = here.0 ∙ sym there.0
one_unfit raw first last typed other (inl here) (inr there) = absurd (here.1 there.1.0)
one_unfit raw first last typed other (inr here) (inl there) = absurd (there.1 here.1.0)
one_unfit raw first last typed other (inr here) (inr there) = here.0 ∙ sym there.0

-- a vector that doesn't fit is reported before a defect
fits_before : (raw : RawCell) (first last defect typed : List ℕ) → IsFirstUnfit raw first last typed → LacksDefect raw first last defect → ⊥
fits_before raw first last defect typed (inl unfit) lacks = unfit.1 lacks.0
fits_before raw first last defect typed (inr unfit) lacks = unfit.1.1 lacks.1.0

-- what is reported of a cell is one fault
module _ (words : List (List ℕ)) (raw : RawCell) (fault other : Fault) where
  both_misfit : Misfits words raw fault → Misfits words raw other → fault ≡ other
  both_misfit here there =
      let same = one_asked words here.first here.last here.defect there.first there.last there.defect here.asked there.asked in
      let unfit : IsFirstUnfit raw there.first there.last here.typed = rw (same.0, same.1.0) at here.unfit in
      here.is ∙ ap BadVector (one_unfit raw there.first there.last here.typed there.typed unfit there.unfit) ∙ sym there.is

  both_lack : LacksOne words raw fault → LacksOne words raw other → fault ≡ other
  both_lack here there =
      let same = one_asked words here.first here.last here.defect there.first there.last there.defect here.asked there.asked in
      here.is ∙ ap NoDefect same.1.1 ∙ sym there.is

misfits_or_lacks : (words : List (List ℕ)) (raw : RawCell) (fault other : Fault) → Misfits words raw fault → LacksOne words raw other → ⊥
misfits_or_lacks words raw fault other here there =
    let same = one_asked words here.first here.last here.defect there.first there.last there.defect here.asked there.asked in
    let unfit : IsFirstUnfit raw there.first there.last here.typed = rw (same.0, same.1.0) at here.unfit in
    fits_before raw there.first there.last there.defect here.typed unfit there.lacks

-- a rule of a cell has one place
one_breaks : (name : List ℕ) (raw : RawCell) (rule again : CellRule) (place other : List ℕ) → BreaksAt rule place raw
    → BreaksAt again other raw → Cell name rule place ≡ Cell name again other
one_breaks name raw rule again place other here there =
    let same : rule ≡ again = one_broken raw rule again here.broken there.broken in
    let one : place ≡ other = here.placed ∙ ap (rule_text raw) same ∙ sym there.placed in
    λ j. Cell name (same j) (one j)

one_at_cell : (words : List (List ℕ)) (raw : RawCell) (fault other : Fault) → AtCell words raw fault → AtCell words raw other
    → fault ≡ other
one_at_cell words raw fault other (inl here) (inl there) =
    here.is ∙ one_breaks (upper_case (cell_word words)) raw here.rule there.rule here.place there.place here.breaks there.breaks ∙ sym there.is
one_at_cell words raw fault other (inl here) (inr (inl there)) = absurd (there.kept here.rule here.breaks.broken.broken)
one_at_cell words raw fault other (inl here) (inr (inr there)) = absurd (there.kept here.rule here.breaks.broken.broken)
one_at_cell words raw fault other (inr (inl here)) (inl there) = absurd (here.kept there.rule there.breaks.broken.broken)
one_at_cell words raw fault other (inr (inl here)) (inr (inl there)) = both_misfit words raw fault other here there
one_at_cell words raw fault other (inr (inl here)) (inr (inr there)) = absurd (misfits_or_lacks words raw fault other here there)
one_at_cell words raw fault other (inr (inr here)) (inl there) = absurd (here.kept there.rule there.breaks.broken.broken)
one_at_cell words raw fault other (inr (inr here)) (inr (inl there)) = absurd (misfits_or_lacks words raw other fault there here)
one_at_cell words raw fault other (inr (inr here)) (inr (inr there)) = both_lack words raw fault other here there

-- what is reported of the subcircuit that the words name in a library, where they name one
abbrev pub AtCalled : List (List ℕ) → Option RawCell → Fault → Type 0
AtCalled words None fault = fault ≡ NoCell (cell_word words)
AtCalled words (Some raw) fault = AtCell words raw fault

one_at_called : (words : List (List ℕ)) (called : Option RawCell) (fault other : Fault) → AtCalled words called fault
    → AtCalled words called other → fault ≡ other
one_at_called words None fault other here there = here ∙ sym there
one_at_called words (Some raw) fault other here there = one_at_cell words raw fault other here there

-- what is reported of a reading, in which the words name a subcircuit or none
abbrev pub AtReading : {S : Type 0} → List (List ℕ) → Result S SpiceFault → (S → Option RawCell) → Fault → Type 0
AtReading words (Ok cells) called fault = AtCalled words (called cells) fault
AtReading words (Err (spice.At line kind)) called fault = fault ≡ Cells line kind
AtReading words (Err (spice.TooManyCells count)) called fault = fault ≡ Limit limit.Cells count
AtReading words (Err spice.NoMemory) called fault = ⊥

abbrev pub AtLibrary : List (List ℕ) → StrengthTable → List ℕ → Fault → Type 0
AtLibrary words table bytes fault = AtReading words (library_of table bytes) (λ cells. called_among cells (upper_case (cell_word words))) fault

one_at_reading : {S : Type 0} (words : List (List ℕ)) (read : Result S SpiceFault) (called : S → Option RawCell) (fault other : Fault)
    → AtReading words read called fault → AtReading words read called other → fault ≡ other
one_at_reading words (Ok cells) called fault other here there = one_at_called words (called cells) fault other here there
one_at_reading words (Err (spice.At line kind)) called fault other here there = here ∙ sym there
one_at_reading words (Err (spice.TooManyCells count)) called fault other here there = here ∙ sym there
one_at_reading words (Err spice.NoMemory) called fault other here there = absurd here

one_at_library : (words : List (List ℕ)) (table : StrengthTable) (bytes : List ℕ) (fault other : Fault) → AtLibrary words table bytes fault
    → AtLibrary words table bytes other → fault ≡ other
one_at_library words table bytes fault other here there =
    one_at_reading words (library_of table bytes) (λ cells. called_among cells (upper_case (cell_word words))) fault other here there

-- what is reported of the files of a command on a cell
abbrev pub ReportsCell : List (List ℕ) → StrengthTable → Fault → List ℕ → Type 0
ReportsCell words table fault bytes = AtLibrary words table bytes fault

abbrev pub AtCellFiles : List (List ℕ) → Files → Fault → Type 0
AtCellFiles words given fault = AtCells (cell_files words) given (ReportsCell words) fault

pub one_at_cell_files : (words : List (List ℕ)) (given : Files) (fault other : Fault) → AtCellFiles words given fault
    → AtCellFiles words given other → fault ≡ other
one_at_cell_files words given = one_at_cells (cell_files words) given (ReportsCell words) (one_at_library words)

-- the causes of each stage
module _ (words : List (List ℕ)) where
  -- the reading in which the words name a subcircuit, or none
  in_reading : {S : Type 0} (read : Result S SpiceFault) (called : S → Option RawCell) (P : RawCell → Type 0) (fault : Fault)
      → ((raw : RawCell) → P raw → AtCell words raw fault)
      → IsSomeAnd (elim read as (λ _. Option RawCell) [ Ok cells ↦ called cells | Err broken ↦ None ]) P
      → AtReading words read called fault
  in_reading (Ok cells) called P fault next held = by (called cells) held
    where
      by : (found : Option RawCell) → IsSomeAnd found P → AtCalled words found fault
      by None held = absurd held
      by (Some raw) held = next raw held
  in_reading (Err broken) called P fault next held = absurd held

  at_called : (table : StrengthTable) (bytes : List ℕ) (P : RawCell → Type 0) (fault : Fault) → ((raw : RawCell) → P raw → AtCell words raw fault)
      → HasCell (cell_word words) P table bytes → AtLibrary words table bytes fault
  at_called table bytes P fault next held =
      in_reading (library_of table bytes) (λ cells. called_among cells (upper_case (cell_word words))) P fault next held

  none_in_reading : {S : Type 0} (read : Result S SpiceFault) (called : S → Option RawCell) → IsOk read
      → IsNone (elim read as (λ _. Option RawCell) [ Ok cells ↦ called cells | Err broken ↦ None ])
      → AtReading words read called (NoCell (cell_word words))
  none_in_reading (Ok cells) called ok none = by (called cells) none
    where
      by : (found : Option RawCell) → IsNone found → AtCalled words found (NoCell (cell_word words))
      by None none = refl
      by (Some raw) none = absurd (true≢false none)
  none_in_reading (Err broken) called ok none = absurd (true≢false (sym ok))

  at_missing : (table : StrengthTable) (bytes : List ℕ) → LacksCell (cell_word words) table bytes
      → AtLibrary words table bytes (NoCell (cell_word words))
  at_missing table bytes lacks =
      none_in_reading (library_of table bytes) (λ cells. called_among cells (upper_case (cell_word words))) lacks.0 lacks.1

  module _ (files : Option Files) (reported : Files) (are : files ≡ Some reported) (given : Files)
      (agree : (name : List ℕ) → IsCellFile (cell_files words) name → reported name ≡ given name) (before after : ℕ) where
    -- what holds of the table and of the bytes of the file
    at_bytes : (P : StrengthTable → List ℕ → Type 0) (fault : Fault)
        → ((table : StrengthTable) (bytes : List ℕ) → P table bytes → AtLibrary words table bytes fault)
        → OfCells files (cell_files words) P → AtCellFiles words given fault
    at_bytes P fault next held = of_cells_text files reported are (cell_files words) given agree (ReportsCell words) fault P next held

    of_text : (fault : Fault) → IsCellsCause (cell_files words) files fault → AtCellFiles words given fault
    of_text (Cells line kind) cause = at_bytes (IsTextCause (Cells line kind)) (Cells line kind) (λ table bytes reads. rw reads refl) cause
    of_text (Limit limit.Cells count) cause =
        at_bytes (IsTextCause (Limit limit.Cells count)) (Limit limit.Cells count) (λ table bytes reads. rw reads refl) cause
    of_text fault cause = absurd cause

    of_name : (fault : Fault) → IsNameCause (cell_files words) (cell_word words) files fault → AtCellFiles words given fault
    of_name (NoCell typed) (typed_is, lacks) =
        subst (λ word. AtCellFiles words given (NoCell word)) (sym typed_is)
        (at_bytes (LacksCell (cell_word words)) (NoCell (cell_word words)) at_missing lacks)
    of_name (Cell cell rule place) (cell_is, broken) =
        let P : RawCell → Type 0 = BreaksAt rule place in
        at_bytes (HasCell (cell_word words) P) (Cell cell rule place)
        (λ table bytes. at_called table bytes P (Cell cell rule place)
        (λ raw breaks. inl (record { rule = rule; place = place; breaks = breaks; is = ap (λ word. Cell word rule place) cell_is })))
        broken
    of_name fault cause = absurd cause

    of_vector : (first last defect : List ℕ) → AreAsked words first last defect → (fault : Fault)
        → IsVectorCause (cell_files words) (cell_word words) first last defect files fault → AtCellFiles words given fault
    of_vector first last defect asked (BadVector typed) cause =
        let P : RawCell → Type 0 = IsPairCause first last defect (BadVector typed) in
        at_bytes (HasCell (cell_word words) P) (BadVector typed)
        (λ table bytes. at_called table bytes P (BadVector typed) (λ raw held. inr (inl (record {
          first = first;
          last = last;
          defect = defect;
          typed = typed;
          asked = asked;
          kept = held.0;
          unfit = held.1;
          is = refl;
        }))))
        cause.1
    of_vector first last defect asked (NoDefect typed) cause =
        let P : RawCell → Type 0 = IsPairCause first last defect (NoDefect typed) in
        at_bytes (HasCell (cell_word words) P) (NoDefect typed)
        (λ table bytes. at_called table bytes P (NoDefect typed) (λ raw held. inr (inr (record {
          first = first;
          last = last;
          defect = defect;
          asked = asked;
          kept = held.1.0;
          lacks = held.1.1;
          is = ap NoDefect held.0;
        }))))
        cause.1.1
    of_vector first last defect asked fault cause = absurd cause

    module _ (fault : Fault) (is : IsInputFault fault) where
      pub of_cell : IsCellCause (cell_files words) (cell_word words) files before after fault → AtCellFiles words given fault
      of_cell (inl (inl memory)) = absurd (subst IsInputFault memory is)
      of_cell (inl (inr (inl table))) =
          of_strengths files reported are (cell_files words) given agree (ReportsCell words) fault before after is table
      of_cell (inl (inr (inr (inl (has, read))))) =
          of_cells_read files reported are (cell_files words) given agree (ReportsCell words) fault before after is has read
      of_cell (inl (inr (inr (inr text)))) = of_text fault text
      of_cell (inr name) = of_name fault name

      of_value : (first last defect : List ℕ) → AreAsked words first last defect
          → IsValueCause (cell_files words) (cell_word words) first last defect files before after fault → AtCellFiles words given fault
      of_value first last defect asked (inl cell) = of_cell cell
      of_value first last defect asked (inr own) = of_vector first last defect asked fault own

      pub of_respond : IsRespond words
          → IsValueCause (cell_files words) (cell_word words) (vector_word words) (vector_word words) dash files before after fault
          → AtCellFiles words given fault
      of_respond respond = of_value (vector_word words) (vector_word words) dash (inl (respond, (refl, (refl, refl))))

      pub of_pair : IsPair words
          → IsValueCause (cell_files words) (cell_word words) (first_word words) (last_word words) (defect_word words) files before after fault
          → AtCellFiles words given fault
      of_pair pair = of_value (first_word words) (last_word words) (defect_word words) (inr (pair, (refl, (refl, refl))))
