use Rattle.ca_link_laws.proofs.TraceLemmas.{one_trace}
use Rattle.ca_link_laws.proofs.laws.alike_have_one_trace.Goals as goal

pub returns : goal.returns
returns c = one_trace
