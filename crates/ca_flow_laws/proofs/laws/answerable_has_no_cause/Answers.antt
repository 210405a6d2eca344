use Rattle.ca_flow_laws.proofs.FitsLemmas.{no_cause}
use Rattle.ca_flow_laws.proofs.laws.answerable_has_no_cause.Goals as goal

pub returns : goal.returns
returns c = no_cause
