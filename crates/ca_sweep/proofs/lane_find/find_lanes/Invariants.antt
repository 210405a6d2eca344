use Rattle.std.proofs.Common.{ℕ, ◌≡◌, ◌<◌, ◌-◌, length}
use Rattle.ca_view.specs.Linked.{place_in}
use Rattle.ca_sweep.specs.code.Held.{IsAtRest}
use Rattle.ca_sweep.specs.code.Lanes.{AreSeenFrom, trits_in, values_in}
use Rattle.ca_sweep.proofs.lane_find.find_lanes.Given as goal

abbrev pub invariant-loop-before : goal.invariant-loop-before
invariant-loop-before l = record {
  seen : AreSeenFrom l.chip.core (place_in l.chip.ranks) l.goods (length l.order - l.before) l.seen.items;
  rest : (lane : ℕ) → lane < 64 → IsAtRest l.chip.core (trits_in l.goods lane) (values_in l.values lane);
  masks : length l.masks.items ≡ 64;
}
