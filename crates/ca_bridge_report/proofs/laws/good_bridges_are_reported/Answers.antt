use Rattle.ca_bridge_report.proofs.LawLemmas.{good_reported}
use Rattle.ca_bridge_report.proofs.laws.good_bridges_are_reported.Goals as goal

pub returns : goal.returns
returns c = good_reported
