use Rattle.ca_flips.proofs.GoodLemmas.{detected_is_flipped_lem}
use Rattle.ca_flips.proofs.laws.detected_is_flipped.Goals as goal

pub returns : goal.returns
returns c = detected_is_flipped_lem
