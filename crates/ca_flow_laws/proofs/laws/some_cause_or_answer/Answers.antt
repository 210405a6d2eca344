use Rattle.ca_flow_laws.proofs.SomeLemmas.{some_cause}
use Rattle.ca_flow_laws.proofs.laws.some_cause_or_answer.Goals as goal

pub returns : goal.returns
returns c = some_cause
