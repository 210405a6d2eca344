-- Why a command is refused: each stage of a command has its own causes, and a command's are those of its
-- stages.
use Rattle.std.specs.Prelude.{◌⊎◌, ℕ, List, Option, ⊤}
use Rattle.ca_store.specs.Store.{Files, Rose}
use Rattle.ca_fault.specs.declared.fault.Fault.{Fault}
use Rattle.ca_fault.specs.declared.fault.Fault.TheVariants.{BadWords, StoreFailed, SinkFailed, NoMemory}
use Rattle.ca_load.specs.Causes.{IsLoadCause}
use Rattle.ca_on_cell.specs.Causes.{IsCellCause, IsValueCause}
use Rattle.ca_words.specs.Words.{cell_files, cell_word, vector_word, first_word, last_word, defect_word, dash}
use Rattle.ca_words.specs.Words.{chip_files, instance_word, chip_defect_word, chip_first_word, chip_last_word}
use Rattle.ca_words.specs.Words.{stil_word, log_word, cert_word, budget_word, order_word, number_word}
use Rattle.ca_words.specs.Words.{IsRespond, IsPair, IsDefects, IsMatrix, IsFlatten, IsSimulate, IsAtpg}
use Rattle.ca_words.specs.Words.{IsReplay, IsGrade, IsDiagnose, IsCertify, IsVerify, IsBridges, IsMake}
use Rattle.ca_words.specs.Words.{IsOnChip, IsCommand, HasOut}
use Rattle.ca_on_chip.specs.OnChip.{IsFlattenCause, IsSimulateCause, IsAtpgCause}
use Rattle.ca_patterns.specs.Patterns.{IsPatternsCause}
use Rattle.ca_diagnosing.specs.Diagnosing.{IsDiagnoseCause}
use Rattle.ca_verifying.specs.Verifying.{IsVerifyCause}
use Rattle.ca_bridging.specs.Bridging.{IsUnknownInstance}
use Rattle.ca_on_chip.specs.Replay.{IsReplayCause}
use Rattle.ca_generating.specs.Making.{IsMakeCause}

-- what is seen of a store and a sink: the files and the bytes that the sink holds, where they are known, and
-- how often each failed
pub record Outside : Type 0 where
  pub files : Option Files
  pub store_faults : ℕ
  pub sink_faults : ℕ
  pub bytes : Option (List ℕ)

-- why the words are refused at once
abbrev pub IsWordsCause : List (List ℕ) → Fault → Type 0
IsWordsCause words BadWords = ¬ (IsCommand words)
IsWordsCause words _ = ⊥

-- why the file that the command writes could not be written
abbrev pub IsWriteCause : List (List ℕ) → ℕ → ℕ → Fault → Type 0
IsWriteCause words before after (StoreFailed name) = HasOut words name × Rose before after
IsWriteCause words before after _ = ⊥

-- why nothing, or a part alone, was printed of work that was whole: there was no memory for its lines, or
-- the output failed
abbrev pub IsPrintCause : ℕ → ℕ → Fault → Type 0
IsPrintCause before after SinkFailed = Rose before after
IsPrintCause before after NoMemory = ⊤
IsPrintCause before after _ = ⊥

-- why the own words of a command on a chip aren't of the chip of its files
abbrev pub IsOwnCause : List (List ℕ) → Option Files → ℕ → ℕ → Fault → Type 0
IsOwnCause words files before after fault =
    (IsFlatten words
    × IsFlattenCause (chip_files words) (instance_word words) (chip_defect_word words) files fault)
    ⊎ ((IsSimulate words
    × IsSimulateCause (chip_files words) (instance_word words) (chip_defect_word words)
    (chip_first_word words) (chip_last_word words) files fault)
    ⊎ ((IsAtpg words × IsAtpgCause (chip_files words) (budget_word words) files fault)
    ⊎ ((IsReplay words
    × IsReplayCause (chip_files words) (instance_word words) (chip_defect_word words)
    (chip_first_word words) (chip_last_word words) (order_word words) files before after fault)
    ⊎ ((IsGrade words
    × IsPatternsCause (chip_files words) (stil_word words) files before after fault)
    ⊎ ((IsDiagnose words
    × IsDiagnoseCause (chip_files words) (stil_word words) (log_word words) files before after fault)
    ⊎ ((IsCertify words × IsAtpgCause (chip_files words) (budget_word words) files fault)
    ⊎ ((IsVerify words
    × IsVerifyCause (chip_files words) (stil_word words) (cert_word words) files before after fault)
    ⊎ (IsBridges words × IsUnknownInstance (chip_files words) (instance_word words) files fault))))))))

-- why a command on a chip did no work: its files give no chip, or its own words aren't of it
abbrev pub IsChipWorkCause : List (List ℕ) → Option Files → ℕ → ℕ → Fault → Type 0
IsChipWorkCause words files before after fault =
    IsOnChip words
    × (IsLoadCause (chip_files words) files before after fault ⊎ IsOwnCause words files before after fault)

-- why the command that the words spell did no work
abbrev pub IsWorkCause : List (List ℕ) → Option Files → ℕ → ℕ → Fault → Type 0
IsWorkCause words files before after fault =
    (IsRespond words × IsValueCause (cell_files words) (cell_word words)
    (vector_word words) (vector_word words) dash files before after fault)
    ⊎ ((IsPair words × IsValueCause (cell_files words) (cell_word words)
    (first_word words) (last_word words) (defect_word words) files before after fault)
    ⊎ ((IsDefects words × IsCellCause (cell_files words) (cell_word words) files before after fault)
    ⊎ ((IsMatrix words × IsCellCause (cell_files words) (cell_word words) files before after fault)
    ⊎ (IsChipWorkCause words files before after fault
    ⊎ (IsMake words × IsMakeCause (number_word words) fault)))))

-- why a command of these words was refused
abbrev pub IsCause : List (List ℕ) → Outside → Outside → Fault → Type 0
IsCause words before after fault =
    IsWordsCause words fault
    ⊎ (IsWorkCause words before.files before.store_faults after.store_faults fault
    ⊎ (IsWriteCause words before.store_faults after.store_faults fault
    ⊎ IsPrintCause before.sink_faults after.sink_faults fault))
