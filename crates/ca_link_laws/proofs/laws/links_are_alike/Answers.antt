use Rattle.ca_link_laws.proofs.AlikeLemmas.{links_alike}
use Rattle.ca_link_laws.proofs.laws.links_are_alike.Goals as goal

pub returns : goal.returns
returns c = links_alike
