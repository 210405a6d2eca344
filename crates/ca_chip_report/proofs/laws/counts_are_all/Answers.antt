use Rattle.ca_chip_report.proofs.LawLemmas.{counted}
use Rattle.ca_chip_report.proofs.laws.counts_are_all.Goals as goal

pub returns : goal.returns
returns c = λ verdicts pairs. counted verdicts
