use Rattle.ca_pin_sets.proofs.ReachLemmas.{home_is}
use Rattle.ca_pin_sets.proofs.laws.home_is_first_reaching.Goals as goal

pub returns : goal.returns
returns c = home_is
