-- When a command does its work, where there is memory.
use Rattle.std.specs.Prelude.{◌≡◌, ◌⊎◌, ℕ, List, Option, Some, IsSome, IsSomeAnd, Ok}
use Rattle.ca_store.specs.Store.{Files, Rose}
use Rattle.ca_cell.specs.declared.raw.RawCell.{RawCell}
use Rattle.ca_cell.specs.Rules.{KeepsRules}
use Rattle.ca_fault.specs.declared.fault.Fault.TheVariants.{NoMemory}
use Rattle.ca_flow.specs.declared.finished.Finished.{Finished}
use Rattle.ca_load.specs.Texts.{AreCellsWith, Inputs, ReadAs}
use Rattle.ca_load.specs.Chips.{IsChipOf, GiveChip}
use Rattle.ca_linked.specs.Linked.{LinkedChip}
use Rattle.ca_scan.specs.ChainFault.{AreAllChains}
use Rattle.ca_patterns.specs.Patterns.{FitsPatterns}
use Rattle.ca_diagnosing.specs.Diagnosing.{FitsDiagnosis}
use Rattle.ca_verifying.specs.Verifying.{FitsVerification}
use Rattle.ca_linked.specs.Instances.{IsNamedGate}
use Rattle.ca_flat.specs.Chip.{cell_at}
use Rattle.ca_view.specs.Core.{core_of}
use Rattle.ca_request.specs.Asked.{FitsInputs, defect_called}
use Rattle.ca_words.specs.Words.{cell_files, cell_word, vector_word, first_word, last_word, defect_word, dash}
use Rattle.ca_words.specs.Words.{chip_files, instance_word, chip_defect_word, chip_first_word, chip_last_word}
use Rattle.ca_words.specs.Words.{stil_word, log_word, cert_word, order_word}
use Rattle.ca_words.specs.Words.{IsRespond, IsPair, IsFlatten, IsSimulate, IsReplay, IsGrade, IsDiagnose}
use Rattle.ca_words.specs.Words.{IsVerify, IsBridges}
use Rattle.ca_words.specs.Words.{GeneratesTests, AsksNoFile, IsOnCell, IsOnChip}
use Rattle.ca_on_chip.specs.OnChip.{IsPairsFault}
use Rattle.ca_on_chip.specs.declared.replays.TheConstants.{MAX_ORDER}
use Rattle.ca_on_chip.specs.Replay.{IsAskedRun}
use Rattle.ca_order.specs.declared.event.Event.{Event}
use Rattle.ca_chip_replay.specs.ChipRun.{RunOf}
use Rattle.ca_simulate.specs.OneRun.{ReadsRun}
use Rattle.ca_load.specs.Files as reading
use Rattle.ca_on_cell.specs.Outputs.{Fits, asked_network}
use Rattle.ca_on_cell.specs.Cells.{HasCell}
use Rattle.ca_flow.specs.Fault.{Outside}

-- the vectors of `pair` have one letter per input pin, and its word for the defect asks for a network
pub record FitsPair (words : List (List ℕ)) (raw : RawCell) : Type 0 where
  pub first : Fits raw (first_word words)
  pub last : Fits raw (last_word words)
  pub defect : IsSome (asked_network raw (defect_word words))

-- the words are those of a command on one cell, its cell keeps the rules of a used cell, and its own words
-- fit the cell
pub record FitsCell (words : List (List ℕ)) (raw : RawCell) : Type 0 where
  pub is : IsOnCell words
  pub kept : KeepsRules raw
  pub respond : IsRespond words → Fits raw (vector_word words)
  pub pair : IsPair words → FitsPair words raw

-- the files that the words name are there, are no longer than they may be and have a reading, in which they
-- name a subcircuit that they fit
abbrev pub FitsFile : List (List ℕ) → Files → Type 0
FitsFile words reported =
    AreCellsWith reported (cell_files words) (HasCell (cell_word words) (FitsCell words))

-- a library instance has the name, and each that has it is of a cell with the defect
pub record HasDefect (chip : LinkedChip) (instance defect : List ℕ) : Type 0 where
  pub u : ℕ
  pub named : IsNamedGate chip instance u
  pub called : (v : ℕ) → IsNamedGate chip instance v
      → IsSome (defect_called (cell_at (core_of chip) v) defect)

-- the words name no defect, or one of the chip
abbrev pub FitsDefect : List (List ℕ) → LinkedChip → Type 0
FitsDefect words chip =
    (instance_word words ≡ dash) ⊎ HasDefect chip (instance_word words) (chip_defect_word words)

-- the vectors of `simulate` have one letter for each chip input, and its words name no defect, or one of the
-- chip
pub record FitsSimulate (words : List (List ℕ)) (chip : LinkedChip) : Type 0 where
  pub first : FitsInputs chip (chip_first_word words)
  pub last : FitsInputs chip (chip_last_word words)
  pub defect : FitsDefect words chip

-- the text names events of each run of the chip that the words of `replay` name
abbrev pub HasEvents : List (List ℕ) → LinkedChip → List ℕ → Type 0
HasEvents words chip text = (run : RunOf)
    → IsAskedRun (instance_word words) (chip_defect_word words) (chip_first_word words) (chip_last_word words)
    chip run → (events : List Event) × ReadsRun run text (Ok events)

-- the words of `replay` fit the chip as those of `simulate` do, and its file is there, is no longer than it
-- may be, and names events
pub record FitsReplay (words : List (List ℕ)) (reported : Files) (chip : LinkedChip) : Type 0 where
  pub pair : FitsSimulate words chip
  pub events : reading.IsFileWith reported (order_word words) MAX_ORDER (HasEvents words chip)

-- the file of `grade` has right patterns of the chip
abbrev pub FitsGrade : List (List ℕ) → Files → LinkedChip → Type 0
FitsGrade words reported chip =
    (chains : List (List ℕ)) → AreAllChains chip chains → FitsPatterns reported (stil_word words) chip chains

-- the files of `diagnose` have right patterns of the chip, and a log for them
abbrev pub FitsDiagnose : List (List ℕ) → Files → LinkedChip → Type 0
FitsDiagnose words reported chip = (chains : List (List ℕ)) → AreAllChains chip chains
    → FitsDiagnosis reported (stil_word words) (log_word words) chip chains

-- the files of `verify` have right patterns of the chip, and a certificate with a claim for each defect
abbrev pub FitsVerify : List (List ℕ) → Files → LinkedChip → Type 0
FitsVerify words reported chip = (chains : List (List ℕ)) → AreAllChains chip chains
    → FitsVerification reported (stil_word words) (cert_word words) chip chains

-- a library instance has the name that the words of `bridges` say
abbrev pub FitsBridges : List (List ℕ) → LinkedChip → Type 0
FitsBridges words chip = (u : ℕ) × IsNamedGate chip (instance_word words) u

-- the own words of a command on a chip are of the chip
pub record FitsOwn (words : List (List ℕ)) (reported : Files) (chip : LinkedChip) : Type 0 where
  pub flatten : IsFlatten words → FitsDefect words chip
  pub simulate : IsSimulate words → FitsSimulate words chip
  pub replay : IsReplay words → FitsReplay words reported chip
  pub grade : IsGrade words → FitsGrade words reported chip
  pub diagnose : IsDiagnose words → FitsDiagnose words reported chip
  pub verify : IsVerify words → FitsVerify words reported chip
  pub bridges : IsBridges words → FitsBridges words chip

-- the words are those of a command on a chip, the files that they name are there, are no longer than they
-- may be, and read as what gives a chip with chains, and the command's own words are of the chip
pub record FitsChip (words : List (List ℕ)) (reported : Files) : Type 0 where
  pub is : IsOnChip words
  pub inputs : Inputs
  pub read : ReadAs (chip_files words) inputs reported
  pub gives : GiveChip inputs
  pub own : (chip : LinkedChip) → IsChipOf inputs chip → FitsOwn words reported chip

-- the words ask for no file, or the files are known and the words fit those that they name
abbrev pub IsAnswerable : List (List ℕ) → Option Files → Type 0
IsAnswerable words files =
    AsksNoFile words ⊎ IsSomeAnd files (λ reported. FitsFile words reported ⊎ FitsChip words reported)

-- `atpg`, `certify` or `make` found one pair more than may be listed
abbrev pub HasTooManyPairs : List (List ℕ) → Finished → Type 0
HasTooManyPairs words end = GeneratesTests words × IsSomeAnd end.fault IsPairsFault

-- where no call of the store or the sink failed, a command that can be answered does its work, or there was
-- no memory, or one that generates tests found too many pairs
abbrev pub Completes : List (List ℕ) → Outside → Outside → Finished → Type 0
Completes words before after end =
    IsAnswerable words before.files → ¬ (Rose before.store_faults after.store_faults)
    → ¬ (Rose before.sink_faults after.sink_faults) → (end.status ≡ 0)
    ⊎ ((end.fault ≡ Some NoMemory) ⊎ HasTooManyPairs words end)
