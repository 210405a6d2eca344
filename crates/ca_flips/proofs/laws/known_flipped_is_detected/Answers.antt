use Rattle.ca_flips.proofs.GoodLemmas.{known_flipped_is_detected_lem}
use Rattle.ca_flips.proofs.laws.known_flipped_is_detected.Goals as goal

pub returns : goal.returns
returns c = known_flipped_is_detected_lem
