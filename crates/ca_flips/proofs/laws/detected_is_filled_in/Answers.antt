use Rattle.ca_flips.proofs.GoodLemmas.{detected_is_filled_in_lem}
use Rattle.ca_flips.proofs.laws.detected_is_filled_in.Goals as goal

pub returns : goal.returns
returns c = detected_is_filled_in_lem
