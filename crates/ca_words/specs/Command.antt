-- The command that words spell.
use Rattle.std.specs.Prelude.{◌≡◌, ℕ, List}
use Rattle.ca_load.specs.declared.loading.FileNames.{FileNames}
use Rattle.ca_load.specs.Texts.{cells_of, names_of}
use Rattle.ca_words.specs.Budget.{HasBudget, HasChipNumber}
use Rattle.ca_words.specs.declared.words.CellWords.{CellWords}
use Rattle.ca_words.specs.declared.words.PairWords.{PairWords}
use Rattle.ca_words.specs.declared.words.MatrixWords.{MatrixWords}
use Rattle.ca_words.specs.declared.words.ChipWords.{ChipWords}
use Rattle.ca_words.specs.declared.words.FlattenWords.{FlattenWords}
use Rattle.ca_words.specs.declared.words.SimulateWords.{SimulateWords}
use Rattle.ca_words.specs.declared.words.AtpgWords.{AtpgWords}
use Rattle.ca_words.specs.declared.words.ReplayWords.{ReplayWords}
use Rattle.ca_words.specs.declared.words.GradeWords.{GradeWords}
use Rattle.ca_words.specs.declared.words.DiagnoseWords.{DiagnoseWords}
use Rattle.ca_words.specs.declared.words.CertifyWords.{CertifyWords}
use Rattle.ca_words.specs.declared.words.VerifyWords.{VerifyWords}
use Rattle.ca_words.specs.declared.words.BridgesWords.{BridgesWords}
use Rattle.ca_words.specs.declared.words.Command.{Command}
use Rattle.ca_words.specs.declared.words.Command.TheVariants.{Respond, Pair, Defects, Matrix, Check, Flatten}
use Rattle.ca_words.specs.declared.words.Command.TheVariants.{Simulate, Atpg, Replay, Grade, Diagnose}
use Rattle.ca_words.specs.declared.words.Command.TheVariants.{Certify, Verify, Bridges, Make, Help, Version}
use Rattle.ca_words.specs.Words.{cell_files, cell_word, vector_word, first_word, last_word, defect_word}
use Rattle.ca_words.specs.Words.{out_word, dash}
use Rattle.ca_words.specs.Words.{chip_files, instance_word, chip_defect_word, flat_out_word, chip_first_word}
use Rattle.ca_words.specs.Words.{chip_last_word}
use Rattle.ca_words.specs.Words.{stil_word, report_word, log_word, candidates_word, budget_word, order_word}
use Rattle.ca_words.specs.Words.{cert_word, number_word}
use Rattle.ca_words.specs.Words.{bridges_stil_word, bridges_report_word, bridges_budget_word}
use Rattle.ca_words.specs.Words.{IsRespond, IsPair, IsDefects, IsMatrix, IsCheck, IsFlatten, IsSimulate}
use Rattle.ca_words.specs.Words.{IsAtpg, IsReplay, IsGrade, IsDiagnose, IsCertify, IsVerify, IsBridges}
use Rattle.ca_words.specs.Words.{IsMake, IsHelp, IsVersion}

-- the files and the cell of a command are those of the words
pub record HasCellWords (words : List (List ℕ)) (request : CellWords) : Type 0 where
  pub files : cells_of request.files ≡ cell_files words
  pub cell : request.cell.now ≡ cell_word words

-- the words are these of `respond`, whose vector is both the first and the last one, without a defect
pub record IsSpelledRespond (words : List (List ℕ)) (request : PairWords) : Type 0 where
  pub is : IsRespond words
  pub of : HasCellWords words request.of
  pub first : request.first.now ≡ vector_word words
  pub last : request.last.now ≡ vector_word words
  pub defect : request.defect.now ≡ dash

-- the words are these of `pair`
pub record IsSpelledPair (words : List (List ℕ)) (request : PairWords) : Type 0 where
  pub is : IsPair words
  pub of : HasCellWords words request.of
  pub first : request.first.now ≡ first_word words
  pub last : request.last.now ≡ last_word words
  pub defect : request.defect.now ≡ defect_word words

-- the words are these of `defects`
pub record IsSpelledDefects (words : List (List ℕ)) (request : CellWords) : Type 0 where
  pub is : IsDefects words
  pub of : HasCellWords words request

-- the words are these of `matrix`
pub record IsSpelledMatrix (words : List (List ℕ)) (request : MatrixWords) : Type 0 where
  pub is : IsMatrix words
  pub of : HasCellWords words request.of
  pub out : request.out.now ≡ out_word words

-- the words are these of `check`
pub record IsSpelledCheck (words : List (List ℕ)) (names : FileNames) : Type 0 where
  pub is : IsCheck words
  pub files : names_of names ≡ chip_files words

-- the files, the instance and the defect of a command are those of the words
pub record HasChipWords (words : List (List ℕ)) (request : ChipWords) : Type 0 where
  pub files : names_of request.files ≡ chip_files words
  pub instance : request.instance.now ≡ instance_word words
  pub defect : request.defect.now ≡ chip_defect_word words

-- the words are these of `flatten`
pub record IsSpelledFlatten (words : List (List ℕ)) (request : FlattenWords) : Type 0 where
  pub is : IsFlatten words
  pub of : HasChipWords words request.of
  pub out : request.out.now ≡ flat_out_word words

-- the words are these of `simulate`
pub record IsSpelledSimulate (words : List (List ℕ)) (request : SimulateWords) : Type 0 where
  pub is : IsSimulate words
  pub of : HasChipWords words request.of
  pub first : request.first.now ≡ chip_first_word words
  pub last : request.last.now ≡ chip_last_word words

-- the words are these of `atpg`
pub record IsSpelledAtpg (words : List (List ℕ)) (request : AtpgWords) : Type 0 where
  pub is : IsAtpg words
  pub files : names_of request.files ≡ chip_files words
  pub stil : request.stil.now ≡ stil_word words
  pub report : request.report.now ≡ report_word words
  pub budget : HasBudget (budget_word words) request.budget

-- the words are these of `replay`
pub record IsSpelledReplay (words : List (List ℕ)) (request : ReplayWords) : Type 0 where
  pub is : IsReplay words
  pub of : HasChipWords words request.of.of
  pub first : request.of.first.now ≡ chip_first_word words
  pub last : request.of.last.now ≡ chip_last_word words
  pub order : request.order.now ≡ order_word words

-- the words are these of `grade`
pub record IsSpelledGrade (words : List (List ℕ)) (request : GradeWords) : Type 0 where
  pub is : IsGrade words
  pub files : names_of request.files ≡ chip_files words
  pub stil : request.stil.now ≡ stil_word words
  pub report : request.report.now ≡ report_word words

-- the words are these of `diagnose`
pub record IsSpelledDiagnose (words : List (List ℕ)) (request : DiagnoseWords) : Type 0 where
  pub is : IsDiagnose words
  pub files : names_of request.files ≡ chip_files words
  pub stil : request.stil.now ≡ stil_word words
  pub log : request.log.now ≡ log_word words
  pub out : request.out.now ≡ candidates_word words

-- the words are these of `certify`
pub record IsSpelledCertify (words : List (List ℕ)) (request : CertifyWords) : Type 0 where
  pub is : IsCertify words
  pub files : names_of request.files ≡ chip_files words
  pub stil : request.stil.now ≡ stil_word words
  pub cert : request.cert.now ≡ cert_word words
  pub budget : HasBudget (budget_word words) request.budget

-- the words are these of `verify`
pub record IsSpelledVerify (words : List (List ℕ)) (request : VerifyWords) : Type 0 where
  pub is : IsVerify words
  pub files : names_of request.files ≡ chip_files words
  pub stil : request.stil.now ≡ stil_word words
  pub cert : request.cert.now ≡ cert_word words

-- the words are these of `bridges`
pub record IsSpelledBridges (words : List (List ℕ)) (request : BridgesWords) : Type 0 where
  pub is : IsBridges words
  pub files : names_of request.files ≡ chip_files words
  pub instance : request.instance.now ≡ instance_word words
  pub stil : request.stil.now ≡ bridges_stil_word words
  pub report : request.report.now ≡ bridges_report_word words
  pub budget : HasBudget (bridges_budget_word words) request.budget

-- the words are these of `make`
pub record IsSpelledMake (words : List (List ℕ)) (number : ℕ) : Type 0 where
  pub is : IsMake words
  pub number_is : HasChipNumber (number_word words) number

-- the words spell the command
abbrev pub IsSpelled : List (List ℕ) → Command → Type 0
IsSpelled words (Respond request) = IsSpelledRespond words request
IsSpelled words (Pair request) = IsSpelledPair words request
IsSpelled words (Defects request) = IsSpelledDefects words request
IsSpelled words (Matrix request) = IsSpelledMatrix words request
IsSpelled words (Check names) = IsSpelledCheck words names
IsSpelled words (Flatten request) = IsSpelledFlatten words request
IsSpelled words (Simulate request) = IsSpelledSimulate words request
IsSpelled words (Atpg request) = IsSpelledAtpg words request
IsSpelled words (Replay request) = IsSpelledReplay words request
IsSpelled words (Grade request) = IsSpelledGrade words request
IsSpelled words (Diagnose request) = IsSpelledDiagnose words request
IsSpelled words (Certify request) = IsSpelledCertify words request
IsSpelled words (Verify request) = IsSpelledVerify words request
IsSpelled words (Bridges request) = IsSpelledBridges words request
IsSpelled words (Make number) = IsSpelledMake words number
IsSpelled words Help = IsHelp words
IsSpelled words Version = IsVersion words
