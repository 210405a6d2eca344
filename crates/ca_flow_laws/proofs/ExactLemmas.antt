-- Of one list of words and one set of files at most one fault of input has a cause; of several loops each
-- has.
use Rattle.std.proofs.Common.{ℕ, ◌≡◌, ◌⊎◌, ◌∙◌, inl, inr, refl, sym, subst, List, Option, Some, None}
use Rattle.std.specs.Prelude.{IsSomeAnd}
use Rattle.ca_store.specs.Store.{Files}
use Rattle.ca_fault.specs.declared.fault.Fault.{Fault}
use Rattle.ca_fault.specs.declared.fault.Fault.TheVariants.{BadWords, StoreFailed, SinkFailed, NoMemory}
use Rattle.ca_load.specs.Texts.{IsCellFile}
use Rattle.ca_words.specs.Words.{cell_files, IsOnCell, IsOnChip, IsCommand}
use Rattle.ca_words.proofs.WordLemmas.{no_chip}
use Rattle.ca_generating.specs.Making.{IsMakeStage}
use Rattle.ca_flow.specs.Fault.{Outside, IsWordsCause, IsWriteCause, IsPrintCause, IsWorkCause, IsCause}
use Rattle.ca_flow_laws.specs.Same.{IsInputFault, IsSame}
use Rattle.ca_flow_laws.specs.Reported.{IsInputFile, ReportsFiles}
use Rattle.ca_flow_laws.proofs.CellLemmas.{AtCellFiles, one_at_cell_files, of_cell, of_respond, of_pair}
use Rattle.ca_flow_laws.proofs.ChipLemmas.{AtChipWords, one_at_chip, pairs_input, of_work}

-- a fault of a generated chip is none of input
pub no_made_input : (number : ℕ) (fault : Fault) → IsInputFault fault → IsMakeStage number fault → ⊥
no_made_input number fault is (inl memory) = subst IsInputFault memory is
no_made_input number fault is (inr many) = pairs_input fault is many.pairs

-- what is reported of words and of their files
abbrev pub AtWords : List (List ℕ) → Files → Fault → Type 0
AtWords words given fault =
    ((¬ (IsCommand words)) × (fault ≡ BadWords))
    ⊎ ((IsOnCell words × AtCellFiles words given fault)
    ⊎ (IsOnChip words × AtChipWords words given fault))

pub one_at_words : (words : List (List ℕ)) (given : Files) (fault other : Fault) → AtWords words given fault → AtWords words given other
    → IsSame fault other
one_at_words words given fault other (inl here) (inl there) = inl (here.1 ∙ sym there.1)
one_at_words words given fault other (inl here) (inr (inl there)) = absurd (here.0 (inl there.0))
one_at_words words given fault other (inl here) (inr (inr there)) = absurd (here.0 (inr (inl there.0)))
one_at_words words given fault other (inr (inl here)) (inl there) = absurd (there.0 (inl here.0))
one_at_words words given fault other (inr (inl here)) (inr (inl there)) =
    inl (one_at_cell_files words given fault other here.1 there.1)
one_at_words words given fault other (inr (inl here)) (inr (inr there)) = absurd (no_chip words here.0 there.0)
one_at_words words given fault other (inr (inr here)) (inl there) = absurd (there.0 (inr (inl here.0)))
one_at_words words given fault other (inr (inr here)) (inr (inl there)) = absurd (no_chip words there.0 here.0)
one_at_words words given fault other (inr (inr here)) (inr (inr there)) = one_at_chip words given fault other here.1 there.1

module _ (words : List (List ℕ)) where
  of_words : (given : Files) (fault : Fault) → IsWordsCause words fault → AtWords words given fault
  of_words given BadWords cause = inl (cause, refl)
  of_words given fault cause = absurd cause

  -- writing and printing have no cause that is a fault of input
  pub no_write : (before after : ℕ) (fault : Fault) → IsInputFault fault → IsWriteCause words before after fault → ⊥
  no_write before after (StoreFailed name) is cause = is
  no_write before after fault is cause = cause

  pub no_print : (before after : ℕ) (fault : Fault) → IsInputFault fault → IsPrintCause before after fault → ⊥
  no_print before after SinkFailed is cause = is
  no_print before after NoMemory is cause = is
  no_print before after fault is cause = cause

  module _ (files : Option Files) (reported : Files) (are : files ≡ Some reported) (given : Files)
      (agree : (name : List ℕ) → IsInputFile words name → reported name ≡ given name) (before after : ℕ) (fault : Fault) (is : IsInputFault fault) where
    of_cells : IsOnCell words → (name : List ℕ) → IsCellFile (cell_files words) name → reported name ≡ given name
    of_cells on name is = agree name (inl (on, is))

    of_work_cause : IsWorkCause words files before after fault → AtWords words given fault
    of_work_cause (inl (respond, cause)) = inr (inl (
      inl respond,
      of_respond words files reported are given (of_cells (inl respond)) before after fault is respond cause,
    ))
    of_work_cause (inr (inl (pair, cause))) = inr (inl (
      inr (inl pair),
      of_pair words files reported are given (of_cells (inr (inl pair))) before after fault is pair cause,
    ))
    of_work_cause (inr (inr (inl (defects, cause)))) = inr (inl (
      inr (inr (inl defects)),
      of_cell words files reported are given (of_cells (inr (inr (inl defects)))) before after fault is cause,
    ))
    of_work_cause (inr (inr (inr (inl (matrix, cause))))) = inr (inl (
      inr (inr (inr matrix)),
      of_cell words files reported are given (of_cells (inr (inr (inr matrix)))) before after fault is cause,
    ))
    of_work_cause (inr (inr (inr (inr (inl (chip, cause)))))) =
        inr (inr (chip, of_work words files reported are given agree chip before after fault is cause))
    of_work_cause (inr (inr (inr (inr (inr (make, cause)))))) = absurd (no_made_input cause.number fault is cause.stage)

  -- the cause of a fault of input is in the words or in their files
  pub of_cause : (given : Files) (before after : Outside) (fault : Fault) → ReportsFiles words given before → IsInputFault fault
      → IsCause words before after fault → AtWords words given fault
  of_cause given before after fault reports is (inl cause) = of_words given fault cause
  of_cause given before after fault reports is (inr (inl cause)) = by before.files refl reports
    where
      by : (files : Option Files) → before.files ≡ files
          → IsSomeAnd files (λ reported. (name : List ℕ) → IsInputFile words name → reported name ≡ given name) → AtWords words given fault
      by None are reports = absurd reports
      by (Some reported) are reports = of_work_cause before.files reported are given reports before.store_faults after.store_faults fault is cause
  of_cause given before after fault reports is (inr (inr (inl cause))) =
      absurd (no_write before.store_faults after.store_faults fault is cause)
  of_cause given before after fault reports is (inr (inr (inr cause))) =
      absurd (no_print before.sink_faults after.sink_faults fault is cause)

-- no two faults of input have a cause
pub one_cause : (words : List (List ℕ)) (files : Files) (before after again later : Outside) (fault other : Fault)
    → ReportsFiles words files before → ReportsFiles words files again → IsInputFault fault → IsInputFault other
    → IsCause words before after fault → IsCause words again later other → IsSame fault other
one_cause words files before after again later fault other reports reports_too is is_too cause cause_too =
    one_at_words words files fault other (of_cause words files before after fault reports is cause)
    (of_cause words files again later other reports_too is_too cause_too)
