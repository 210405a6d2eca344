use Rattle.ca_flips.proofs.ThereLemmas.{flipped_are_unique_lem}
use Rattle.ca_flips.proofs.laws.flipped_are_unique.Goals as goal

pub returns : goal.returns
returns c = flipped_are_unique_lem
