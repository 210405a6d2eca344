-- How a command ends.
use Rattle.std.specs.Prelude.{◌≡◌, ℕ, List, length, Option, IfSome}
use Rattle.ca_store.specs.Store.{Files}
use Rattle.ca_scan.specs.ChainFault.{AreAllChains}
use Rattle.ca_load.specs.Files.{OfFile, ReportsStoreFault}
use Rattle.ca_flow.specs.declared.finished.Done.{Done}
use Rattle.ca_flow.specs.declared.finished.Done.TheVariants.{Respond, Pair, Defects, Matrix, Check, Flatten}
use Rattle.ca_flow.specs.declared.finished.Done.TheVariants.{Simulate, Atpg, Replay, Grade}
use Rattle.ca_flow.specs.declared.finished.Done.TheVariants.{Diagnose, Certify, Verify, Bridges}
use Rattle.ca_flow.specs.declared.finished.Done.TheVariants.{Make, Help, Version}
use Rattle.ca_flow.specs.declared.finished.Finished.{Finished}
use Rattle.ca_words.specs.Words.{cell_files, cell_word, vector_word, first_word, last_word, defect_word, dash}
use Rattle.ca_words.specs.Words.{chip_files, instance_word, chip_defect_word, chip_first_word, chip_last_word}
use Rattle.ca_words.specs.Words.{stil_word, log_word, cert_word, budget_word, order_word, number_word}
use Rattle.ca_words.specs.Words.{IsRespond, IsPair, IsDefects, IsMatrix, IsCheck, IsFlatten, IsSimulate}
use Rattle.ca_words.specs.Words.{IsAtpg, IsReplay, IsGrade, IsDiagnose, IsCertify, IsVerify, IsMake}
use Rattle.ca_words.specs.Words.{bridges_budget_word, IsBridges, IsHelp, IsVersion}
use Rattle.ca_on_cell.specs.Outputs.{AreValues}
use Rattle.ca_flow.specs.Finished.{IsAnswer, Prints, Writes, ReportsSinkFault}
use Rattle.ca_on_cell.specs.Cells.{OfCell}
use Rattle.ca_on_cell.specs.Defects.{AreDefectNames, IsSoundMatrix}
use Rattle.ca_on_chip.specs.OnChip.{IsChipOfFiles, IsTracedChipOf, IsFlatOf, AreEndsOf, AreTestsOf}
use Rattle.ca_on_chip.specs.declared.replays.TheConstants.{MAX_ORDER}
use Rattle.ca_on_chip.specs.Replay.{AreRunEndsOf}
use Rattle.ca_grading.specs.Grading.{AreGradesByFile}
use Rattle.ca_engine.specs.ChipTask.{task_of}
use Rattle.ca_chip_diag.specs.Texts.{diagnosis_line}
use Rattle.ca_diagnosing.specs.Diagnosing.{AreCandidatesByFiles}
use Rattle.ca_certifying.specs.Certifying.{IsCertifiedFor}
use Rattle.ca_verifying.specs.Verifying.{IsAnswerByFiles, answer_line}
use Rattle.ca_bridging.specs.Bridging.{AreJudgedFor}
use Rattle.ca_generating.specs.Making.{AreMadeTests}
use Rattle.ca_flow.specs.Fault.{Outside, IsCause}
use Rattle.ca_flow.specs.Complete.{Completes}

-- the work that is reported is that of the command, on the cell that the words name in the files that they
-- name, or on the chip that their files give
abbrev pub IsAsked : List (List ℕ) → Option Files → Done → Type 0
IsAsked words files (Respond values) = IsRespond words × OfCell files (cell_files words) (cell_word words)
    (AreValues (vector_word words) (vector_word words) dash values)
IsAsked words files (Pair values) = IsPair words × OfCell files (cell_files words) (cell_word words)
    (AreValues (first_word words) (last_word words) (defect_word words) values)
IsAsked words files (Defects names) =
    IsDefects words × OfCell files (cell_files words) (cell_word words) (AreDefectNames names)
IsAsked words files (Matrix matrix) =
    IsMatrix words × OfCell files (cell_files words) (cell_word words) (IsSoundMatrix matrix)
IsAsked words files (Check chip chains) =
    IsCheck words × (AreAllChains chip chains × IsChipOfFiles files (chip_files words) chip)
IsAsked words files (Flatten chip net) = IsFlatten words
    × (IsTracedChipOf files (chip_files words) chip
    × IsFlatOf (instance_word words) (chip_defect_word words) chip net)
IsAsked words files (Simulate chip ends) = IsSimulate words
    × (IsTracedChipOf files (chip_files words) chip
    × AreEndsOf (instance_word words) (chip_defect_word words) (chip_first_word words) (chip_last_word words)
    chip ends.good.items ends.faulty.items)
IsAsked words files (Atpg chip chains pairs aims verdicts) = IsAtpg words
    × (AreAllChains chip chains
    × (IsChipOfFiles files (chip_files words) chip
    × AreTestsOf (budget_word words) chip pairs aims verdicts))
IsAsked words files (Replay chip ends) = IsReplay words × (IsTracedChipOf files (chip_files words) chip
    × OfFile files (order_word words) MAX_ORDER
    (AreRunEndsOf (instance_word words) (chip_defect_word words) (chip_first_word words)
    (chip_last_word words)
    chip ends.items))
IsAsked words files (Grade chip chains pairs grades) = IsGrade words
    × (AreAllChains chip chains
    × (IsChipOfFiles files (chip_files words) chip
    × AreGradesByFile files (stil_word words) chip chains pairs grades))
IsAsked words files (Diagnose chip chains pairs log candidates line) = IsDiagnose words
    × (AreAllChains chip chains
    × (IsChipOfFiles files (chip_files words) chip
    × (AreCandidatesByFiles files (stil_word words) (log_word words) chip chains pairs log candidates
    × (line ≡ diagnosis_line (length candidates) (length (task_of chip 0).defects) (length log)))))
IsAsked words files (Certify chip chains pairs aims certificate) = IsCertify words
    × (AreAllChains chip chains
    × (IsChipOfFiles files (chip_files words) chip
    × IsCertifiedFor (budget_word words) chip pairs aims certificate))
IsAsked words files (Verify chip chains pairs certificate answer line) = IsVerify words
    × (AreAllChains chip chains
    × (IsChipOfFiles files (chip_files words) chip
    × (IsAnswerByFiles files (stil_word words) (cert_word words) chip chains pairs certificate answer
    × (line ≡ answer_line answer))))
IsAsked words files (Bridges chip chains bridges pairs aims verdicts) = IsBridges words
    × (AreAllChains chip chains
    × (IsChipOfFiles files (chip_files words) chip
    × AreJudgedFor (instance_word words) (bridges_budget_word words) chip bridges pairs aims verdicts))
IsAsked words files (Make chip pairs aims verdicts) =
    IsMake words × AreMadeTests (number_word words) chip pairs aims verdicts
IsAsked words files Help = IsHelp words
IsAsked words files Version = IsVersion words

-- how a command of these words ends
pub record Ends (words : List (List ℕ)) (before after : Outside) (end : Finished) : Type 0 where
  pub answer : IsAnswer words end
  pub asked : IfSome end.done (IsAsked words before.files)
  pub prints : Prints end before.bytes after.bytes
  pub writes : Writes words end before.files after.files
  pub cause : IfSome end.fault (IsCause words before after)
  pub complete : Completes words before after end
  pub of_store : ReportsStoreFault end.fault before.store_faults after.store_faults
  pub of_sink : ReportsSinkFault end.fault before.sink_faults after.sink_faults
