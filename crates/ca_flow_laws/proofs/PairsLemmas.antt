-- Too many pairs are found only where no fault of input has a cause.
use Rattle.std.proofs.Common.{ℕ, ◌≡◌, ◌⊎◌, inl, inr, refl, List, Option, Some, None}
use Rattle.std.specs.Prelude.{IsSomeAnd}
use Rattle.ca_store.specs.Store.{Files}
use Rattle.ca_fault.specs.declared.fault.Fault.{Fault}
use Rattle.ca_fault.specs.declared.fault.Fault.TheVariants.{BadWords, Strengths, Cells, Netlist, Scan, Chip, Chain}
use Rattle.ca_fault.specs.declared.fault.Fault.TheVariants.{NoCell, Cell, BadVector, NoInstance, NoDefect}
use Rattle.ca_fault.specs.declared.fault.Fault.TheVariants.{Order, Stil, StilChip, Expected, Log, Cert, CertChip, TooLong, TooManyPairs}
use Rattle.ca_fault.specs.declared.fault.Fault.TheVariants.{Limit, StoreFailed, SinkFailed, NoMemory}
use Rattle.ca_load.specs.Texts.{CellFiles}
use Rattle.ca_load.specs.Causes.{IsStrengthsCause, IsLibraryCause, IsScanCause, IsLoadCause}
use Rattle.ca_words.specs.Words.{cell_files, cell_word, vector_word, first_word, last_word, defect_word, dash, chip_files, IsAtpg, IsCertify, IsMake, IsOnChip}
use Rattle.ca_words.proofs.WordLemmas.{no_chip, no_asking_cell, no_asking_chip}
use Rattle.ca_on_cell.specs.Causes.{IsCellCause, IsValueCause}
use Rattle.ca_on_chip.specs.OnChip.{OfChip, IsPairsFault, IsPairsCause}
use Rattle.ca_flow.specs.Fault.{Outside, IsOwnCause, IsWorkCause, IsCause}
use Rattle.ca_flow_laws.specs.Same.{IsInputFault, IsCallFault}
use Rattle.ca_flow_laws.specs.Reported.{IsInputFile, ReportsFiles}
use Rattle.ca_flow_laws.proofs.LoadLemmas.{read_given, no_load}
use Rattle.ca_flow_laws.proofs.ChipLemmas.{atpg_or_flatten, atpg_or_simulate, atpg_or_replay, atpg_or_grade, atpg_or_diagnose, atpg_or_verify}
use Rattle.ca_flow_laws.proofs.ChipLemmas.{certify_or_flatten, certify_or_simulate, certify_or_replay, certify_or_grade, certify_or_diagnose, certify_or_verify, AtOwn}
use Rattle.ca_flow_laws.proofs.ChipLemmas.{atpg_or_bridges, certify_or_bridges}
use Rattle.ca_flow_laws.proofs.ExactLemmas.{AtWords, of_cause}

-- a fault is one of a call or of memory, one of input, or has pairs
pub kind_of_fault : (fault : Fault) → IsCallFault fault ⊎ (IsInputFault fault ⊎ IsPairsFault fault)
kind_of_fault BadWords = inr (inl tt)
kind_of_fault (Strengths row) = inr (inl tt)
kind_of_fault (Cells line kind) = inr (inl tt)
kind_of_fault (Netlist line kind) = inr (inl tt)
kind_of_fault (Scan row) = inr (inl tt)
kind_of_fault (Chip rule place) = inr (inl tt)
kind_of_fault (Chain name) = inr (inl tt)
kind_of_fault (NoCell word) = inr (inl tt)
kind_of_fault (Cell cell rule place) = inr (inl tt)
kind_of_fault (BadVector word) = inr (inl tt)
kind_of_fault (NoInstance word) = inr (inl tt)
kind_of_fault (NoDefect word) = inr (inl tt)
kind_of_fault (Order line) = inr (inl tt)
kind_of_fault (Stil line) = inr (inl tt)
kind_of_fault StilChip = inr (inl tt)
kind_of_fault (Expected pair output) = inr (inl tt)
kind_of_fault (Log row) = inr (inl tt)
kind_of_fault (Cert line) = inr (inl tt)
kind_of_fault (CertChip claims) = inr (inl tt)
kind_of_fault (TooLong name taken) = inr (inl tt)
kind_of_fault (TooManyPairs pairs aims) = inr (inr tt)
kind_of_fault (Limit kind count) = inr (inl tt)
kind_of_fault (StoreFailed name) = inl tt
kind_of_fault SinkFailed = inl tt
kind_of_fault NoMemory = inl tt

-- `atpg` found too many pairs for the chip of the files, or the words are those of `make`
abbrev pub IsGenerating : List (List ℕ) → Option Files → Fault → Type 0
IsGenerating words files fault =
    ((IsAtpg words ⊎ IsCertify words) × ((budget : ℕ) × OfChip files (chip_files words) (IsPairsCause budget fault))) ⊎ IsMake words

-- where a fault has pairs
module _ (words : List (List ℕ)) (pairs : _) (aims : _) (files : Option Files) (before after : ℕ) where
  no_strengths : (table : Option (List ℕ)) → IsStrengthsCause table files before after (TooManyPairs pairs aims) → ⊥
  no_strengths None cause = cause
  no_strengths (Some name) (inl read) = read
  no_strengths (Some name) (inr text) = text

  no_library : (names : CellFiles) → IsLibraryCause names files before after (TooManyPairs pairs aims) → ⊥
  no_library names (inl memory) = cc
  no_library names (inr (inl table)) = no_strengths names.table table
  no_library names (inr (inr (inl (has, read)))) = read
  no_library names (inr (inr (inr text))) = text

  no_cell : IsCellCause (cell_files words) (cell_word words) files before after (TooManyPairs pairs aims) → ⊥
  no_cell (inl library) = no_library (cell_files words) library
  no_cell (inr named) = named

  no_value : (first last defect : List ℕ)
      → IsValueCause (cell_files words) (cell_word words) first last defect files before after (TooManyPairs pairs aims) → ⊥
  no_value first last defect (inl cell) = no_cell cell
  no_value first last defect (inr own) = own

  no_scan : (scan : Option (List ℕ)) → IsScanCause scan files before after (TooManyPairs pairs aims) → ⊥
  no_scan None cause = cause
  no_scan (Some name) (inl read) = read
  no_scan (Some name) (inr rows) = rows

  no_load_cause : IsLoadCause (chip_files words) files before after (TooManyPairs pairs aims) → ⊥
  no_load_cause (inl (inl library)) = no_library (cell_files words) library
  no_load_cause (inl (inr (inl (has, inl read)))) = read
  no_load_cause (inl (inr (inl (has, inr text)))) = text
  no_load_cause (inl (inr (inr (has, (too, cause))))) = no_scan (chip_files words).scan cause
  no_load_cause (inr (is, held)) = is

  of_own : IsOwnCause words files before after (TooManyPairs pairs aims) → IsGenerating words files (TooManyPairs pairs aims)
  of_own (inl (is, (word, held))) = absurd word
  of_own (inr (inl (is, (inl word, held)))) = absurd word
  of_own (inr (inl (is, (inr word, held)))) = absurd word
  of_own (inr (inr (inl (is, cause)))) = inl (inl is, (cause.budget, cause.many.1))
  of_own (inr (inr (inr (inl (is, inl (inl word, held)))))) = absurd word
  of_own (inr (inr (inr (inl (is, inl (inr word, held)))))) = absurd word
  of_own (inr (inr (inr (inl (is, inr (held, read)))))) = absurd read
  of_own (inr (inr (inr (inr (inl (is, inl (held, read))))))) = absurd read
  of_own (inr (inr (inr (inr (inl (is, inr (word, held))))))) = absurd word
  of_own (inr (inr (inr (inr (inr (inl (is, inl (inl (held, read))))))))) = absurd read
  of_own (inr (inr (inr (inr (inr (inr (inr (inl (is, inl (inl (held, read))))))))))) = absurd read
  of_own (inr (inr (inr (inr (inr (inl (is, inl (inr (word, held))))))))) = absurd word
  of_own (inr (inr (inr (inr (inr (inr (inr (inl (is, inl (inr (word, held))))))))))) = absurd word
  of_own (inr (inr (inr (inr (inr (inl (is, inr (inl (held, read))))))))) = absurd read
  of_own (inr (inr (inr (inr (inr (inr (inr (inl (is, inr (inl (held, read))))))))))) = absurd read
  of_own (inr (inr (inr (inr (inr (inl (is, inr (inr (word, held))))))))) = absurd word
  of_own (inr (inr (inr (inr (inr (inr (inr (inl (is, inr (inr (word, held))))))))))) = absurd word
  of_own (inr (inr (inr (inr (inr (inr (inr (inr (is, (word, held)))))))))) = absurd word
  of_own (inr (inr (inr (inr (inr (inr (inl (is, cause)))))))) = inl (inr is, (cause.budget, cause.many.1))

  of_work : IsWorkCause words files before after (TooManyPairs pairs aims) → IsGenerating words files (TooManyPairs pairs aims)
  of_work (inl (is, cause)) = absurd (no_value (vector_word words) (vector_word words) dash cause)
  of_work (inr (inl (is, cause))) = absurd (no_value (first_word words) (last_word words) (defect_word words) cause)
  of_work (inr (inr (inl (is, cause)))) = absurd (no_cell cause)
  of_work (inr (inr (inr (inl (is, cause))))) = absurd (no_cell cause)
  of_work (inr (inr (inr (inr (inl (is, inl load)))))) = absurd (no_load_cause load)
  of_work (inr (inr (inr (inr (inl (is, inr own)))))) = of_own own
  of_work (inr (inr (inr (inr (inr (make, cause)))))) = inr make

generates : (words : List (List ℕ)) (before after : Outside) (fault : Fault) → IsPairsFault fault → IsCause words before after fault
    → IsGenerating words before.files fault
generates words before after (TooManyPairs pairs aims) many (inl cause) = absurd cause
generates words before after (TooManyPairs pairs aims) many (inr (inl cause)) =
    of_work words pairs aims before.files before.store_faults after.store_faults cause
generates words before after (TooManyPairs pairs aims) many (inr (inr (inl cause))) = absurd cause
generates words before after (TooManyPairs pairs aims) many (inr (inr (inr cause))) = absurd cause
generates words before after fault many cause = absurd many

-- words of `atpg` and `certify` are of no command with words of its own
no_own_words : (words : List (List ℕ)) (given : Files) (chip : _) (fault : Fault) → IsAtpg words ⊎ IsCertify words → AtOwn words given chip fault → ⊥
no_own_words words given chip fault (inl is) (inl (flatten, at)) = atpg_or_flatten words is flatten
no_own_words words given chip fault (inl is) (inr (inl (simulate, at))) = atpg_or_simulate words is simulate
no_own_words words given chip fault (inl is) (inr (inr (inl (replay, at)))) = atpg_or_replay words is replay
no_own_words words given chip fault (inl is) (inr (inr (inr (inl (grade, at))))) = atpg_or_grade words is grade
no_own_words words given chip fault (inl is) (inr (inr (inr (inr (inl (diagnose, at)))))) = atpg_or_diagnose words is diagnose
no_own_words words given chip fault (inl is) (inr (inr (inr (inr (inr (inl (verify, at))))))) = atpg_or_verify words is verify
no_own_words words given chip fault (inl is) (inr (inr (inr (inr (inr (inr (bridges, at))))))) = atpg_or_bridges words is bridges
no_own_words words given chip fault (inr is) (inl (flatten, at)) = certify_or_flatten words is flatten
no_own_words words given chip fault (inr is) (inr (inl (simulate, at))) = certify_or_simulate words is simulate
no_own_words words given chip fault (inr is) (inr (inr (inl (replay, at)))) = certify_or_replay words is replay
no_own_words words given chip fault (inr is) (inr (inr (inr (inl (grade, at))))) = certify_or_grade words is grade
no_own_words words given chip fault (inr is) (inr (inr (inr (inr (inl (diagnose, at)))))) = certify_or_diagnose words is diagnose
no_own_words words given chip fault (inr is) (inr (inr (inr (inr (inr (inl (verify, at))))))) = certify_or_verify words is verify
no_own_words words given chip fault (inr is) (inr (inr (inr (inr (inr (inr (bridges, at))))))) = certify_or_bridges words is bridges

-- they are of a command on a chip
generates_on_chip : (words : List (List ℕ)) → IsAtpg words ⊎ IsCertify words → IsOnChip words
generates_on_chip words (inl is) = inr (inr (inr (inl is)))
generates_on_chip words (inr is) = inr (inr (inr (inr (inr (inr (inr (inl is)))))))

module _ (words : List (List ℕ)) (given : Files) (other : Fault) where
  -- a chip that has too many pairs is one of which nothing is reported
  no_words : (files : Option Files) (reported : Files) → files ≡ Some reported → ((name : List ℕ) → IsInputFile words name → reported name ≡ given name)
      → (fault : Fault) → IsGenerating words files fault → AtWords words given other → ⊥
  no_words files reported are agree fault (inl (is, found)) (inl bad) = bad.0 (inr (inl (generates_on_chip words is)))
  no_words files reported are agree fault (inl (is, found)) (inr (inl cell)) = no_chip words cell.0 (generates_on_chip words is)
  no_words files reported are agree fault (inl (is, found)) (inr (inr (on, inl load))) =
      let it = found.1 reported are in
      no_load (chip_files words) given it.0
      (read_given files reported are (chip_files words) given (λ name same. agree name (inr (inl (on, same)))) it.0 it.1.0)
      it.1.1.chip it.1.1.is it.1.1.traced other load
  no_words files reported are agree fault (inl (is, found)) (inr (inr (on, inr own))) =
      no_own_words words given own.1.1.chip other is own.1.1.at
  no_words files reported are agree fault (inr make) (inl bad) = bad.0 (inr (inr (inr (inr make))))
  no_words files reported are agree fault (inr make) (inr (inl cell)) = no_asking_cell words (inr (inr make)) cell.0
  no_words files reported are agree fault (inr make) (inr (inr chip)) = no_asking_chip words (inr (inr make)) chip.0

-- where a fault of input has a cause none with pairs has one
pub no_pairs : (words : List (List ℕ)) (given : Files) (before after again later : Outside) (fault other : Fault) → ReportsFiles words given before
    → ReportsFiles words given again → IsPairsFault fault → IsInputFault other → IsCause words before after fault → IsCause words again later other → ⊥
no_pairs words given before after again later fault other reports reports_too many is cause cause_too = by before.files refl reports
  where
    by : (files : Option Files) → before.files ≡ files
        → IsSomeAnd files (λ reported. (name : List ℕ) → IsInputFile words name → reported name ≡ given name) → ⊥
    by None are reports = reports
    by (Some reported) are reports = no_words words given other before.files reported are reports fault (generates words before after fault many cause)
        (of_cause words given again later other reports_too is cause_too)
