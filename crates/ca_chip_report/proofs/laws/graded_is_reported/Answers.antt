use Rattle.ca_chip_report.proofs.LawLemmas.{graded_reported}
use Rattle.ca_chip_report.proofs.laws.graded_is_reported.Goals as goal

pub returns : goal.returns
returns c = graded_reported
