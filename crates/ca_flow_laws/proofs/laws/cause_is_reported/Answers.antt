use Rattle.ca_flow_laws.proofs.AnsweredLemmas.{reported_cause}
use Rattle.ca_flow_laws.proofs.laws.cause_is_reported.Goals as goal

pub returns : goal.returns
returns c = reported_cause
