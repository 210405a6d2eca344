use Rattle.ca_flips.proofs.GoodLemmas.{detected_is_forced_lem}
use Rattle.ca_flips.proofs.laws.detected_is_forced.Goals as goal

pub returns : goal.returns
returns c = detected_is_forced_lem
