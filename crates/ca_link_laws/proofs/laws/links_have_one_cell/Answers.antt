use Rattle.ca_link_laws.proofs.AlikeLemmas.{one_cell}
use Rattle.ca_link_laws.proofs.laws.links_have_one_cell.Goals as goal

pub returns : goal.returns
returns c = one_cell
