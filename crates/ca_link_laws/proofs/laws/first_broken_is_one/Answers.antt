use Rattle.ca_link_laws.proofs.BrokenLemmas.{first_broken}
use Rattle.ca_link_laws.proofs.laws.first_broken_is_one.Goals as goal

pub returns : goal.returns
returns c = first_broken
