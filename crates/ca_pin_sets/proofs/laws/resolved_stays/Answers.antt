use Rattle.ca_pin_sets.proofs.StayLemmas.{stays}
use Rattle.ca_pin_sets.proofs.laws.resolved_stays.Goals as goal

pub returns : goal.returns
returns c = stays
