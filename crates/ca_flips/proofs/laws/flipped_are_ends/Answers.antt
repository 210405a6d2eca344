use Rattle.ca_flips.proofs.GoodLemmas.{flipped_are_ends_lem}
use Rattle.ca_flips.proofs.laws.flipped_are_ends.Goals as goal

pub returns : goal.returns
returns c = flipped_are_ends_lem
