use Rattle.ca_flips.proofs.GoodLemmas.{good_lasts_are_of_waves_lem}
use Rattle.ca_flips.proofs.laws.good_lasts_are_of_waves.Goals as goal

pub returns : goal.returns
returns c = good_lasts_are_of_waves_lem
