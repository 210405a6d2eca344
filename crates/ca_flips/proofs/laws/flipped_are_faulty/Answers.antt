use Rattle.ca_flips.proofs.DetectLemmas.{flipped_are_faulty_lem}
use Rattle.ca_flips.proofs.laws.flipped_are_faulty.Goals as goal

pub returns : goal.returns
returns c = flipped_are_faulty_lem
