use Rattle.ca_chip_pairs.proofs.CoverLemmas.{covered}
use Rattle.ca_chip_pairs.proofs.laws.chains_cover.Goals as goal

pub returns : goal.returns
returns c = covered
