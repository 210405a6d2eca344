-- Where the files of a command are there, the command can be answered, or a fault of input has a cause.
use Rattle.std.proofs.Common.{ℕ, ◌≡◌, ◌≤◌, ◌<◌, ◌+◌, ◌⊎◌, ◌∙◌, inl, inr, refl, sym, ap, subst, arith, List}
use Rattle.std.proofs.Common.{length, Option, Some, None, Result, Ok, Err, true≢false}
use Rattle.std.specs.Prelude.{IsSome, IsNone, IsOk, IsSomeAnd}
use Rattle.std.proofs.Math.Decide.{dec_le}
use Rattle.std.proofs.lemmas.Option.{same_Some}
use Rattle.ca_store.specs.Store.{Files}
use Rattle.ca_lex.specs.Words.{upper_case}
use Rattle.ca_cell.specs.declared.raw.RawCell.{RawCell}
use Rattle.ca_cell.specs.declared.strength.StrengthTable.{StrengthTable}
use Rattle.ca_cell.specs.Strength.{default_table}
use Rattle.ca_strengths.specs.StrengthText.{strengths_of}
use Rattle.ca_cell.specs.declared.rule.CellRule.{CellRule}
use Rattle.ca_cell.specs.Raw.{is_input, role_count}
use Rattle.ca_cell.specs.Rules.{KeepsRules, IsFirstBroken}
use Rattle.ca_cell.proofs.BrokenLemmas.{broken_or_kept}
use Rattle.ca_spice.specs.declared.fault.SpiceFault.{SpiceFault}
use Rattle.ca_spice.specs.declared.fault.SpiceFault.TheVariants as spice
use Rattle.ca_spice.specs.Reading.{library_of}
use Rattle.ca_spice.specs.Called.{cell_called}
use Rattle.ca_spice.proofs.AnswerLemmas.{reading_has_memory}
use Rattle.ca_load.specs.declared.cells.TheConstants.{MAX_CELLS}
use Rattle.ca_load.specs.declared.strengths.TheConstants.{MAX_STRENGTHS}
use Rattle.ca_load.specs.Files.{IsReadCause}
use Rattle.ca_load.specs.Texts.{IsCellFile, table_within, strengths_in, HasStrengths, OfCells}
use Rattle.ca_load.specs.Causes.{IsTextCause, IsStrengthsCause}
use Rattle.ca_load.proofs.TableLemmas.{table_of_bytes}
use Rattle.ca_fault_place.specs.Place.{rule_text}
use Rattle.ca_fault.specs.declared.fault.LimitKind.TheVariants as limit
use Rattle.ca_fault.specs.declared.fault.Fault.{Fault}
use Rattle.ca_fault.specs.declared.fault.Fault.TheVariants.{Cells, NoCell, Cell, BadVector, NoDefect, TooLong}
use Rattle.ca_fault.specs.declared.fault.Fault.TheVariants.{Strengths, Limit}
use Rattle.ca_words.specs.Words.{table_word, cells_word, cell_files, cell_word, vector_word, first_word, last_word, defect_word, dash}
use Rattle.ca_words.specs.Words.{IsOnChip, AsksNoFile, IsOnCell, IsCommand}
use Rattle.ca_on_cell.specs.Outputs.{letters_of, Fits, asked_network}
use Rattle.ca_on_cell.specs.Cells.{HasCell, LacksCell, OfCell}
use Rattle.ca_flow.specs.Fault.{Outside, IsCause}
use Rattle.ca_on_cell.specs.Causes.{BreaksAt}
use Rattle.ca_on_cell.specs.Causes.{IsPairCause, IsVectorCause, IsCellCause}
use Rattle.ca_flow.specs.Complete.{FitsCell, IsAnswerable}
use Rattle.ca_flow_laws.specs.Same.{IsInputFault}
use Rattle.ca_flow_laws.specs.Reported.{IsInputFile, ReportsAllFiles}
use Rattle.ca_flow_laws.specs.Laws.{HasInputCause}
use Rattle.ca_flow_laws.proofs.CellLemmas.{respond_or_pair}
use Rattle.ca_flow_laws.proofs.FitsLemmas.{respond_or_defects, pair_or_defects, pair_or_matrix, respond_or_matrix}

-- a reading or a fault
read_or_fault : {S : Type 0} (read : Result S SpiceFault) → IsOk read ⊎ ((fault : SpiceFault) × (read ≡ Err fault))
read_or_fault (Ok cells) = inl refl
read_or_fault (Err fault) = inr (fault, refl)

pub same_or_other : (a b : ℕ) → (a ≡ b) ⊎ ¬ (a ≡ b)
same_or_other a b = elim (dec_le a b) [
  | no more ↦ inr (λ same. omega (arith, more, same))
  | yes up ↦ elim (dec_le b a) [
    | yes down ↦ inl (omega (arith, up, down))
    | no less ↦ inr (λ same. omega (arith, less, same))
  ]
]

some_or_none : {A : Type 0} (reported : Option A) → IsSome reported ⊎ IsNone reported
some_or_none None = inr refl
some_or_none (Some it) = inl refl

-- how it stands with a command
abbrev Stands : List (List ℕ) → Outside → Type 0
Stands words outside = IsAnswerable words outside.files ⊎ HasInputCause words outside

-- of a text that is read as a table, or isn't
ratios_or_fault : (answer : Result StrengthTable ℕ) → ((table : StrengthTable) × (answer ≡ Ok table)) ⊎ ((row : ℕ) × (answer ≡ Err row))
ratios_or_fault (Ok table) = inl (table, refl)
ratios_or_fault (Err row) = inr (row, refl)

module _ (words : List (List ℕ)) (outside : Outside) (reported : Files) (are : outside.files ≡ Some reported) (command : IsOnCell words) where
  -- a cause of finding the cell is one of each command
  cell_cause : (fault : Fault) → IsInputFault fault
      → IsCellCause (cell_files words) (cell_word words) outside.files outside.store_faults outside.store_faults fault → Stands words outside
  cell_cause fault is cause = inr (fault, (is, by command))
    where
      by : IsOnCell words → IsCause words outside outside fault
      by (inl respond) = inr (inl (inl (respond, inl cause)))
      by (inr (inl pair)) = inr (inl (inr (inl (pair, inl cause))))
      by (inr (inr (inl defects))) = inr (inl (inr (inr (inl (defects, cause)))))
      by (inr (inr (inr matrix))) = inr (inl (inr (inr (inr (inl (matrix, cause))))))

  -- a file that is longer than it may be
  read_too_long : (name bytes : List ℕ) (most : ℕ) → reported name ≡ Some bytes → most < length bytes
      → IsReadCause name outside.files most outside.store_faults outside.store_faults (TooLong name (most + 1))
  read_too_long name bytes most there past = (
    refl,
    record {
      past = λ other is.
          let same : other ≡ reported = same_Some other reported (sym is ∙ are) in
          rw (same, there) past;
      one_more = refl;
      quiet = refl;
    },
  )

  module _ (table : StrengthTable) (under : strengths_in (table_word words) reported ≡ Some table) (bytes : List ℕ)
      (there : reported (cells_word words) ≡ Some bytes) where
    has_strengths : HasStrengths outside.files (table_word words)
    has_strengths = λ other is.
        let same : other ≡ reported = same_Some other reported (sym is ∙ are) in
        rw (same, under) refl

    too_long : MAX_CELLS < length bytes → Stands words outside
    too_long past = cell_cause (TooLong (cells_word words) (MAX_CELLS + 1)) tt
        (inl (inr (inr (inl (has_strengths, read_too_long (cells_word words) bytes MAX_CELLS there past)))))

    module _ (within : length bytes ≤ MAX_CELLS) where
      -- what holds of the table and of the bytes holds of the files
      of_bytes : (P : StrengthTable → List ℕ → Type 0) → P table bytes → OfCells outside.files (cell_files words) P
      of_bytes P holds = λ other is.
          let same : other ≡ reported = same_Some other reported (sym is ∙ are) in
          rw (same, under, there) (within, holds)

      at_fault : (fault : SpiceFault) → library_of table bytes ≡ Err fault → Stands words outside
      at_fault (spice.At line kind) reads =
          cell_cause (Cells line kind) tt (inl (inr (inr (inr (of_bytes (IsTextCause (Cells line kind)) reads)))))
      at_fault (spice.TooManyCells count) reads =
          cell_cause (Limit limit.Cells count) tt (inl (inr (inr (inr (of_bytes (IsTextCause (Limit limit.Cells count)) reads)))))
      at_fault spice.NoMemory reads = absurd (reading_has_memory table bytes reads)

      at_missing : IsOk (library_of table bytes) → cell_called table bytes (cell_word words) ≡ None → Stands words outside
      at_missing reads missing =
          let lacks : LacksCell (cell_word words) table bytes = (reads, rw missing refl) in
          cell_cause (NoCell (cell_word words)) tt (inr (refl, of_bytes (LacksCell (cell_word words)) lacks))

      module _ (raw : RawCell) (called : cell_called table bytes (cell_word words) ≡ Some raw) where
        of_cell : (P : RawCell → Type 0) → P raw → OfCell outside.files (cell_files words) (cell_word words) P
        of_cell P holds =
            let has : HasCell (cell_word words) P table bytes = rw called holds in
            of_bytes (HasCell (cell_word words) P) has

        fits : FitsCell words raw → Stands words outside
        fits held =
            let has : HasCell (cell_word words) (FitsCell words) table bytes = rw called held in
            inl (inr (rw (are, under, there) (inl (within, has))))

        breaks : (rule : CellRule) → IsFirstBroken raw rule → Stands words outside
        breaks rule first = cell_cause (Cell (upper_case (cell_word words)) rule (rule_text raw rule)) tt
            (inr (refl, of_cell (BreaksAt rule (rule_text raw rule)) (record { broken = first; placed = refl })))

        -- vectors and a defect that fit, or the first that doesn't
        values : KeepsRules raw → (first last defect : List ℕ)
            → (Fits raw first → Fits raw last → IsSome (asked_network raw defect) → Stands words outside)
            → ((fault : Fault) → IsInputFault fault
            → IsVectorCause (cell_files words) (cell_word words) first last defect outside.files fault → Stands words outside)
            → Stands words outside
        values kept first last defect answers cause = elim (same_or_other (length (letters_of first)) (role_count is_input raw.pins)) [
          | inr unfit ↦ cause (BadVector first) tt
              (inl refl, of_cell (IsPairCause first last defect (BadVector first)) (kept, inl (refl, unfit)))
          | inl first_fits ↦ elim (same_or_other (length (letters_of last)) (role_count is_input raw.pins)) [
            | inr unfit ↦ cause (BadVector last) tt
                (inr refl, of_cell (IsPairCause first last defect (BadVector last)) (kept, inr (refl, (first_fits, unfit))))
            | inl last_fits ↦ elim (some_or_none (asked_network raw defect)) [
              | inl some ↦ answers first_fits last_fits some
              | inr none ↦ cause (NoDefect defect) tt (
                refl,
                (
                  λ same. true≢false (subst (λ word. IsNone (asked_network raw word)) same none),
                  of_cell (IsPairCause first last defect (NoDefect defect)) (refl, (kept, (first_fits, (last_fits, none)))),
                ),
              )
            ]
          ]
        ]

        keeps : KeepsRules raw → Stands words outside
        keeps kept = by command
          where
            by : IsOnCell words → Stands words outside
            by (inl respond) = values kept (vector_word words) (vector_word words) dash
                (λ first last some. fits (record {
                  is = (inl respond);
                  kept = kept;
                  respond = λ _. first;
                  pair = λ pair. absurd (respond_or_pair words respond pair);
                }))
                (λ fault is cause. inr (fault, (is, inr (inl (inl (respond, inr cause))))))
            by (inr (inl pair)) = values kept (first_word words) (last_word words) (defect_word words)
                (λ first last some. fits (record {
                  is = (inr (inl pair));
                  kept = kept;
                  respond = λ respond. absurd (respond_or_pair words respond pair);
                  pair = λ _. record { first = first; last = last; defect = some };
                }))
                (λ fault is cause. inr (fault, (is, inr (inl (inr (inl (pair, inr cause)))))))
            by (inr (inr (inl defects))) = fits (record {
              is = (inr (inr (inl defects)));
              kept = kept;
              respond = λ respond. absurd (respond_or_defects words respond defects);
              pair = λ pair. absurd (pair_or_defects words pair defects);
            })
            by (inr (inr (inr matrix))) = fits (record {
              is = (inr (inr (inr matrix)));
              kept = kept;
              respond = λ respond. absurd (respond_or_matrix words respond matrix);
              pair = λ pair. absurd (pair_or_matrix words pair matrix);
            })

        at_raw : Stands words outside
        at_raw = elim (broken_or_kept raw) [ inl found ↦ breaks found.0 found.1 | inr kept ↦ keeps kept ]

      at_bytes : Stands words outside
      at_bytes = by (read_or_fault (library_of table bytes))
        where
          by_called : IsOk (library_of table bytes) → (called : Option RawCell) → cell_called table bytes (cell_word words) ≡ called → Stands words outside
          by_called reads None called = at_missing reads called
          by_called reads (Some raw) called = at_raw raw called

          by : IsOk (library_of table bytes) ⊎ ((fault : SpiceFault) × (library_of table bytes ≡ Err fault)) → Stands words outside
          by (inl reads) = by_called reads (cell_called table bytes (cell_word words)) refl
          by (inr found) = at_fault found.0 found.1

    stands_under : Stands words outside
    stands_under = elim (dec_le (length bytes) MAX_CELLS) [ yes within ↦ at_bytes within | no past ↦ too_long (omega (arith, past)) ]

  -- the table's file is there, where one is named, and it is a table or a fault of input has a cause
  table_or : (name : Option (List ℕ)) → ((word : List ℕ) → name ≡ Some word → IsSome (reported word))
      → ((fault : Fault) → IsInputFault fault → IsStrengthsCause name outside.files outside.store_faults outside.store_faults fault
      → Stands words outside)
      → ((table : StrengthTable) → strengths_in name reported ≡ Some table → Stands words outside) → Stands words outside
  table_or None there cause read = read default_table refl
  table_or (Some name) there cause read = by (reported name) refl (there name refl)
    where
      at_text : (bytes : List ℕ) → reported name ≡ Some bytes → length bytes ≤ MAX_STRENGTHS
          → ((table : StrengthTable) × (strengths_of bytes ≡ Ok table)) ⊎ ((row : ℕ) × (strengths_of bytes ≡ Err row)) → Stands words outside
      at_text bytes there within (inl found) =
          read found.0 (ap table_within there ∙ table_of_bytes bytes found.0 within found.1)
      at_text bytes there within (inr found) = cause (Strengths found.0) tt (inr (λ other is.
          let same : other ≡ reported = same_Some other reported (sym is ∙ are) in
          rw (same, there) (within, found.1)))

      by : (file : Option (List ℕ)) → reported name ≡ file → IsSome file → Stands words outside
      by None there some = absurd (true≢false (sym some))
      by (Some bytes) there some = elim (dec_le (length bytes) MAX_STRENGTHS) [
        | yes within ↦ at_text bytes there within (ratios_or_fault (strengths_of bytes))
        | no past ↦ cause (TooLong name (MAX_STRENGTHS + 1)) tt (inl (read_too_long name bytes MAX_STRENGTHS there (omega (arith, past))))
      ]

  stands : ((name : List ℕ) → IsCellFile (cell_files words) name → IsSome (reported name)) → Stands words outside
  stands there = table_or (table_word words) (λ name is. there name (inl is))
      (λ fault is cause. cell_cause fault is (inl (inr (inl cause))))
      (λ table under. by table under (reported (cells_word words)) refl (there (cells_word words) (inr refl)))
    where
      by : (table : StrengthTable) → strengths_in (table_word words) reported ≡ Some table → (file : Option (List ℕ))
          → reported (cells_word words) ≡ file → IsSome file → Stands words outside
      by table under None there some = absurd (true≢false (sym some))
      by table under (Some bytes) there some = stands_under table under bytes there

of_command : (words : List (List ℕ)) → ¬ (IsOnChip words) → IsCommand words → IsOnCell words ⊎ AsksNoFile words
of_command words not_chip (inl on) = inl on
of_command words not_chip (inr (inl chip)) = absurd (not_chip chip)
of_command words not_chip (inr (inr asks)) = inr asks

-- a command on a cell whose files are there can be answered, or a fault of input has a cause
pub some_cause : (words : List (List ℕ)) (outside : Outside) → ReportsAllFiles words outside → ¬ (IsOnChip words) → IsCommand words
    → IsAnswerable words outside.files ⊎ HasInputCause words outside
some_cause words outside reports not_chip command = by_command (of_command words not_chip command)
  where
    by : IsOnCell words → (files : Option Files) → outside.files ≡ files
        → IsSomeAnd files (λ reported. (name : List ℕ) → IsInputFile words name → IsSome (reported name)) → Stands words outside
    by on None are reports = absurd reports
    by on (Some reported) are reports = stands words outside reported are on (λ name is. reports name (inl (on, is)))

    by_command : IsOnCell words ⊎ AsksNoFile words → Stands words outside
    by_command (inl on) = by on outside.files refl reports
    by_command (inr asks) = inl (inl asks)
