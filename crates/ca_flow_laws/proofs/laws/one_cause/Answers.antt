use Rattle.ca_flow_laws.proofs.ExactLemmas.{one_cause}
use Rattle.ca_flow_laws.proofs.laws.one_cause.Goals as goal

pub returns : goal.returns
returns c = one_cause
