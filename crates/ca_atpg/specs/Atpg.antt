-- The texts that report test generation on a linked chip.
use Rattle.std.specs.Prelude.{ℕ, ◌≡◌, Bool, List}
use Rattle.ca_net.specs.declared.trit.Trit.{Trit}
use Rattle.ca_linked.specs.Linked.{LinkedChip}
use Rattle.ca_view.specs.Core.{core_of}
use Rattle.ca_outputs.specs.Outputs.{output_names}
use Rattle.ca_credit.specs.declared.verdict.Verdict.{Verdict}
use Rattle.ca_expected.specs.Expected.{AreExpected}
use Rattle.ca_stil.specs.Text.{stil_text}
use Rattle.ca_chip_stil.specs.ChipStil.{stil_chip}
use Rattle.ca_report.specs.Report.{report_text}
use Rattle.ca_chip_report.specs.ChipReport.{report_rows}
use Rattle.ca_chip_report.specs.Summary as summary
use Rattle.ca_engine.specs.ChipTask.{task_of}

-- the text of these pairs and of what the good chip ends with under each
pub record IsStil (chip : LinkedChip) (chains : List (List ℕ)) (pairs : List (List Bool))
    (text : List ℕ) : Type 0
  where
    pub expected : List (List Trit)
    pub are_expected : AreExpected (core_of chip) pairs expected
    pub is : text ≡ stil_text (stil_chip chip chains) pairs expected

-- the report of the verdicts on the chip's defects
abbrev pub report_of : LinkedChip → List Verdict → List ℕ
report_of chip verdicts =
    report_text (output_names chip) (report_rows chip (task_of chip 0).defects verdicts)

-- the line that says how many defects have which verdict, and how many pairs there are
abbrev pub summary_text : List Verdict → ℕ → List ℕ
summary_text verdicts pairs = summary.summary_line (summary.summary_of verdicts pairs)
