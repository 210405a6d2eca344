use Rattle.ca_search.proofs.WayLemmas.{free_way_is_front_lem}
use Rattle.ca_search.proofs.laws.free_way_is_front.Goals as goal

pub returns : goal.returns
returns c = free_way_is_front_lem
