-- The flat networks are those that were worked out by hand.
use Rattle.std.proofs.Common.{refl}
use Rattle.ca_flat.specs.Flat.{inner_before, place, devices_before}
use Rattle.ca_flat_tests.specs.ByHand.{AreByHand}

pub are_by_hand_lem : AreByHand
unfolding inner_before place devices_before
are_by_hand_lem = record {
  inverter = refl;
  inverter_open = refl;
  nands = refl;
  open_drain_of_the_second = refl;
  open_pin_of_the_first = refl;
  short_in_the_second = refl;
}
