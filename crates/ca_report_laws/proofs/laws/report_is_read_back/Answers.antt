use Rattle.ca_report_laws.proofs.BackLemmas.{reads_back}
use Rattle.ca_report_laws.proofs.laws.report_is_read_back.Goals as goal

pub returns : goal.returns
returns c = reads_back
