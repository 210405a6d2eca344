use Rattle.std.proofs.Common.{◌≡◌, ◌-◌, ◌^◌, ℕ, length, drop}
use Rattle.std.specs.Prelude.{vec_capacity}
use Rattle.ca_lanes.specs.Plane.{lane_of}
use Rattle.ca_lanes.specs.Choice.{choices_of}
use Rattle.ca_lanes.specs.code.Allowed.{lanes_of, allowed_by}
use Rattle.ca_lanes.proofs.masks.spread.Given as goal

abbrev pub invariant-loop-later : goal.invariant-loop-later
invariant-loop-later l = record {
  allowed : (lane : ℕ) → lanes_of l.masks.items lane ≡ allowed_by (lane_of l.fn.loaded lane) (choices_of (drop (length l.pins - l.later) l.pins) lane);
  count : length l.masks.items ≡ 2 ^ l.later;
  room : vec_capacity l.masks ≡ vec_capacity l.fn.masks;
}
