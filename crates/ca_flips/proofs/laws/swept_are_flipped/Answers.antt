use Rattle.ca_flips.proofs.SweepLemmas.{swept_are_flipped_lem}
use Rattle.ca_flips.proofs.laws.swept_are_flipped.Goals as goal

pub returns : goal.returns
returns c = swept_are_flipped_lem
