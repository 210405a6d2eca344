use Rattle.ca_scan.proofs.ChainLemmas.{one_chain}
use Rattle.ca_scan.proofs.laws.chains_are_one.Goals as goal

pub returns : goal.returns
returns c = one_chain
