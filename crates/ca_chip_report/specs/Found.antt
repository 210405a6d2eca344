-- What is reported of defects, verdicts or grades.
use Rattle.std.specs.Prelude.{List, map}
use Rattle.ca_report.specs.declared.verdict.Verdict as report
use Rattle.ca_chip_report.specs.declared.rows.Found.{Found}
use Rattle.ca_chip_report.specs.declared.rows.Found.TheVariants.{Verdicts, Grades}
use Rattle.ca_chip_report.specs.ChipReport.{reported_of}
use Rattle.ca_chip_report.specs.Grades.{reported_grade}

-- what is reported of the defects
abbrev pub found_of : Found → List report.Verdict
found_of (Verdicts verdicts) = map reported_of verdicts.now
found_of (Grades grades) = map reported_grade grades.now
