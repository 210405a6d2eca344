use Rattle.ca_flat_tests.proofs.HandFlats.{are_by_hand_lem}
use Rattle.ca_flat_tests.proofs.laws.are_by_hand.Goals as goal

pub returns : goal.returns
returns c = are_by_hand_lem
