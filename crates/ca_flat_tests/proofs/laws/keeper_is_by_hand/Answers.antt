use Rattle.ca_flat_tests.proofs.KeeperFlats.{keeper_is_by_hand_lem}
use Rattle.ca_flat_tests.proofs.laws.keeper_is_by_hand.Goals as goal

pub returns : goal.returns
returns c = keeper_is_by_hand_lem
