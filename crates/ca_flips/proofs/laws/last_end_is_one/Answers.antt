use Rattle.ca_flips.proofs.CellLemmas.{last_end_is_one_lem}
use Rattle.ca_flips.proofs.laws.last_end_is_one.Goals as goal

pub returns : goal.returns
returns c = last_end_is_one_lem
