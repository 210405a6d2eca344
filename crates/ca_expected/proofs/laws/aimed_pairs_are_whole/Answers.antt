use Rattle.ca_expected.proofs.WholeLemmas.{pairs_whole}
use Rattle.ca_expected.proofs.laws.aimed_pairs_are_whole.Goals as goal

pub returns : goal.returns
returns c = pairs_whole
