-- Of which defects is reported. Private functions and proofs cite this.
use Rattle.std.specs.Prelude.{◌≡◌, List, length}
use Rattle.std.specs.List.{All}
use Rattle.ca_flat.specs.declared.chip_defect.ChipDefect.{ChipDefect}
use Rattle.ca_linked.specs.Linked.{LinkedChip, outputs_of}
use Rattle.ca_report.specs.declared.verdict.Verdict as report
use Rattle.ca_report.specs.Report.{IsVerdictOf}
use Rattle.ca_chip_report.specs.ChipReport.{IsGateDefect}

-- the defects are those of library instances of the chip, something is reported of each, and each output that
-- is credited is an observed one
pub record AreRows (chip : LinkedChip) (defects : List ChipDefect) (reported : List report.Verdict)
    : Type 0 where
  pub defects_are : All (IsGateDefect chip) defects
  pub one_each : length reported ≡ length defects
  pub outputs : All (IsVerdictOf (length (outputs_of chip))) reported
