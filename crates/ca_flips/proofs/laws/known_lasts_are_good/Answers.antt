use Rattle.ca_flips.proofs.KnownLemmas.{known_lasts_are_good_lem}
use Rattle.ca_flips.proofs.laws.known_lasts_are_good.Goals as goal

pub returns : goal.returns
returns c = known_lasts_are_good_lem
