use Rattle.ca_flips.proofs.GoodLemmas.{unflipped_is_undetected_lem}
use Rattle.ca_flips.proofs.laws.unflipped_is_undetected.Goals as goal

pub returns : goal.returns
returns c = unflipped_is_undetected_lem
