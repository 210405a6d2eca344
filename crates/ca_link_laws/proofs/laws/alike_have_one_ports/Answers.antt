use Rattle.ca_link_laws.proofs.TraceLemmas.{one_ports}
use Rattle.ca_link_laws.proofs.laws.alike_have_one_ports.Goals as goal

pub returns : goal.returns
returns c = one_ports
