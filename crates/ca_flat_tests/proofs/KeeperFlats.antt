-- The flat network of the chip with the keeper is the one that was worked out by hand.
use Rattle.std.proofs.Common.{refl}
use Rattle.ca_flat.specs.Flat.{inner_before, place, devices_before}
use Rattle.ca_flat_tests.specs.Keeper.{KeeperIsByHand}

pub keeper_is_by_hand_lem : KeeperIsByHand
unfolding inner_before place devices_before
keeper_is_by_hand_lem = record { good = refl; shorted = refl }
