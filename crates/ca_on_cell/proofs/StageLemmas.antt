-- How the causes of a command on one cell follow from those of its stages.
use Rattle.std.proofs.Common.{ℕ, ◌≡◌, ◌≢◌, ◌⊎◌, inl, inr, refl, List, Option, Some, Result, Ok, Err, true≢false, subst}
use Rattle.std.specs.Prelude.{IsNone, IfErr}
use Rattle.ca_store.specs.Store.{Files}
use Rattle.ca_lex.specs.Words.{upper_case}
use Rattle.ca_cell.specs.declared.raw.RawCell.{RawCell}
use Rattle.ca_cell.specs.declared.library.Entry.TheVariants.{Sound, Refused}
use Rattle.ca_cell.specs.Library.{Named, entry_of}
use Rattle.ca_fault.specs.declared.fault.Fault.{Fault}
use Rattle.ca_fault.specs.declared.fault.Fault.TheVariants.{NoCell, Cell, BadVector, NoDefect, NoMemory}
use Rattle.ca_load.specs.Texts.{CellFiles, OfCells, IsLibraryOf}
use Rattle.ca_load.specs.Causes.{IsLibraryCause}
use Rattle.ca_request.specs.Vectors.{dash}
use Rattle.ca_on_cell.specs.Outputs.{asked_network}
use Rattle.ca_on_cell.specs.Causes.{BreaksAt, IsCellCause, IsFirstUnfit, IsPairCause, IsVectorCause, IsValueCause}
use Rattle.ca_on_cell.specs.Stages.{IsEntryCause}
use Rattle.ca_on_cell.specs.code.Stages.{IsEvaluationCause}
use Rattle.ca_on_cell.proofs.FileLemmas.{of_entry, of_none}

-- a vector that doesn't fit is the first or the last
typed_of : (raw : RawCell) (first last typed : List ℕ) → IsFirstUnfit raw first last typed → (typed ≡ first) ⊎ (typed ≡ last)
typed_of raw first last typed (inl unfit) = inl unfit.0
typed_of raw first last typed (inr unfit) = inr unfit.0

-- a dash asks for the cell itself
no_dash : (raw : RawCell) (defect : List ℕ) → IsNone (asked_network raw defect) → defect ≢ dash
no_dash raw defect none = λ same. true≢false (subst (λ word. IsNone (asked_network raw word)) same none)

module _ (names : CellFiles) (word : List ℕ) (files : Option Files) (library : List Named)
    (read : OfCells files names (IsLibraryOf library)) (before after : ℕ) where
  -- a word that finds no cell in the library that was read finds none in the file
  pub of_entry_cause : (fault : Fault) → IsEntryCause word library fault → IsCellCause names word files before after fault
  of_entry_cause (NoCell typed) (same, missing) = inr (same, of_none files names word library read missing)
  of_entry_cause (Cell cell rule place) (same, refuses) =
      inr (
        same,
        of_entry files names word library read (Refused refuses.raw rule) (BreaksAt rule place) refuses.found
            (record { broken = refuses.broken; placed = refuses.placed }),
      )
  of_entry_cause NoMemory cause = inl (inl refl)
  of_entry_cause fault cause = absurd cause

  -- a cell of the library without values is one of the file
  module _ (first last defect : List ℕ) (raw : RawCell) (found : entry_of library (upper_case word) ≡ Some (Sound raw)) where
    at_pair : (fault : Fault) → IsPairCause first last defect fault raw → IsVectorCause names word first last defect files fault
    at_pair (BadVector typed) cause = (
      typed_of raw first last typed cause.1,
      of_entry files names word library read (Sound raw) (IsPairCause first last defect (BadVector typed)) found cause,
    )
    at_pair (NoDefect typed) cause = (
      cause.0,
      (no_dash raw defect cause.1.1.1.1, of_entry files names word library read (Sound raw) (IsPairCause first last defect (NoDefect typed)) found cause),
    )
    at_pair fault cause = absurd cause

    pub of_evaluation : (fault : Fault) → IsEvaluationCause first last defect raw fault
        → IsValueCause names word first last defect files before after fault
    of_evaluation fault (inl none) = inl (inl (inl none))
    of_evaluation fault (inr cause) = inr (at_pair fault cause)

    -- the same of an answer
    pub of_evaluated : {T : Type 0} (result : Result T Fault) → IfErr result (IsEvaluationCause first last defect raw)
        → IfErr result (IsValueCause names word first last defect files before after)
    of_evaluated (Ok value) cause = tt
    of_evaluated (Err fault) cause = of_evaluation fault cause
