use Rattle.ca_flips.proofs.CellLemmas.{lasts_are_of_lasts_lem}
use Rattle.ca_flips.proofs.laws.lasts_are_of_lasts.Goals as goal

pub returns : goal.returns
returns c = lasts_are_of_lasts_lem
