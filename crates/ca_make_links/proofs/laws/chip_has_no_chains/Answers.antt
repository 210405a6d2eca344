use Rattle.ca_make_links.proofs.ChainLemmas.{chip_has_no_chains}
use Rattle.ca_make_links.proofs.laws.chip_has_no_chains.Goals as goal

pub returns : goal.returns
returns c = chip_has_no_chains
