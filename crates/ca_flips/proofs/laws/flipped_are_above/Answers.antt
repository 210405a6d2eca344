use Rattle.ca_flips.proofs.FlipLemmas.{flipped_are_above_lem}
use Rattle.ca_flips.proofs.laws.flipped_are_above.Goals as goal

pub returns : goal.returns
returns c = flipped_are_above_lem
