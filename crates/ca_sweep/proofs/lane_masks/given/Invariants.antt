use Rattle.std.proofs.Common.{ℕ, ◌≡◌, ◌≢◌, ◌<◌, ◌==◌, length, true, false}
use Rattle.ca_net.specs.declared.trit.Trit.TheVariants.{One}
use Rattle.ca_planes.specs.Plane.{has_lane, lane_at}
use Rattle.ca_static.specs.LastTable.{last_at}
use Rattle.ca_sweep.proofs.lane_masks.given.Given as goal

abbrev pub invariant-loop-number : goal.invariant-loop-number
invariant-loop-number l = record {
  one : (lane number : ℕ) → number < length l.table → ((k : ℕ) → k < length l.table → lane_at l.masks k lane ≡ (number == k))
      → has_lane l.found lane ≡ true → last_at l.table number l.output ≡ One;
  other : (lane number : ℕ) → number < length l.table → ((k : ℕ) → k < length l.table → lane_at l.masks k lane ≡ (number == k))
      → has_lane l.found lane ≡ false → number < l.number → last_at l.table number l.output ≢ One;
}
