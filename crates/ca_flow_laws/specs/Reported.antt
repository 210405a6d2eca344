-- What is known of a store of the files that a command reads.
use Rattle.std.specs.Prelude.{◌≡◌, ◌⊎◌, ℕ, List, Some, IsSome, IsSomeAnd}
use Rattle.ca_store.specs.Store.{Files}
use Rattle.ca_load.specs.Texts.{IsCellFile, InputFiles}
use Rattle.ca_words.specs.Words.{cell_files, stil_word, log_word, order_word, chip_files, IsReplay, IsGrade}
use Rattle.ca_words.specs.Words.{cert_word, IsDiagnose, IsVerify, IsOnCell, IsOnChip}
use Rattle.ca_flow.specs.Fault.{Outside}

-- the name is that of one of the files of a chip
abbrev pub IsChipFile : InputFiles → List ℕ → Type 0
IsChipFile names name = IsCellFile names.cells name ⊎ ((name ≡ names.netlist) ⊎ (names.scan ≡ Some name))

-- a command of these words reads the file of this name
abbrev pub IsInputFile : List (List ℕ) → List ℕ → Type 0
IsInputFile words name =
    (IsOnCell words × IsCellFile (cell_files words) name)
    ⊎ ((IsOnChip words × IsChipFile (chip_files words) name)
    ⊎ ((IsReplay words × (name ≡ order_word words))
    ⊎ ((IsGrade words × (name ≡ stil_word words))
    ⊎ ((IsDiagnose words × ((name ≡ stil_word words) ⊎ (name ≡ log_word words)))
    ⊎ (IsVerify words × ((name ≡ stil_word words) ⊎ (name ≡ cert_word words)))))))

-- it is known what the store has under the name of each file that the command reads: these bytes, or no file
abbrev pub ReportsFiles : List (List ℕ) → Files → Outside → Type 0
ReportsFiles words files outside =
    IsSomeAnd outside.files (λ reported. (name : List ℕ) → IsInputFile words name
    → reported name ≡ files name)

-- each of these files is known to be there
abbrev pub ReportsAllFiles : List (List ℕ) → Outside → Type 0
ReportsAllFiles words outside =
    IsSomeAnd outside.files (λ reported. (name : List ℕ) → IsInputFile words name → IsSome (reported name))
