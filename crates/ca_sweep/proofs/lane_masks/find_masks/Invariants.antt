use Rattle.std.proofs.Common.{ℕ, ◌≡◌, ◌<◌, ◌^◌, length}
use Rattle.std.specs.Prelude.{slice_index}
use Rattle.ca_planes.specs.Plane.{lane_at}
use Rattle.ca_sweep.specs.code.Lanes.{AreMasksTo}
use Rattle.ca_sweep.proofs.lane_masks.find_masks.Given as goal

abbrev pub invariant-loop-pin : goal.invariant-loop-pin
invariant-loop-pin l = record {
  count : l.count ≡ 2 ^ l.pin;
  room : length l.masks.items ≡ 64;
  masks : (lane : ℕ) → lane < 64 → AreMasksTo (λ pin. lane_at l.ones (slice_index l.pins pin) lane) l.pin l.masks.items lane;
}
