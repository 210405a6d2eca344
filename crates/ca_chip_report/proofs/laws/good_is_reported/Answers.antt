use Rattle.ca_chip_report.proofs.LawLemmas.{good_reported}
use Rattle.ca_chip_report.proofs.laws.good_is_reported.Goals as goal

pub returns : goal.returns
returns c = good_reported
