use Rattle.std.proofs.Common.{◌≡◌, ◌^◌, ℕ, length}
use Rattle.ca_lanes.specs.Plane.{lane_of}
use Rattle.ca_lanes.specs.Choice.{choices_of}
use Rattle.ca_lanes.specs.code.Allowed.{lanes_of}
use Rattle.ca_lanes.specs.code.Evaluated.{masks_for, IsEvaluated}
use Rattle.ca_lanes.proofs.planes.Planes.evaluate.Given as goal

abbrev pub invariant-loop-output : goal.invariant-loop-output
invariant-loop-output l = record {
  evaluated : (lane : ℕ) → IsEvaluated l.rows.values.items l.rows.inputs l.rows.outputs l.pins (lane_of l.fn.self.loaded lane) l.output
      (choices_of l.fn.self.firsts.items lane) (choices_of l.fn.self.lasts.items lane) (choices_of l.self.firsts.items lane) (choices_of l.self.lasts.items lane);
  first : (lane : ℕ) → lanes_of l.self.first_masks.items lane ≡ masks_for (lane_of l.fn.self.loaded lane) (choices_of l.fn.self.firsts.items lane) l.rows.inputs l.pins;
  last : (lane : ℕ) → lanes_of l.self.last_masks.items lane ≡ masks_for (lane_of l.fn.self.loaded lane) (choices_of l.fn.self.lasts.items lane) l.rows.inputs l.pins;
  first_count : length l.self.first_masks.items ≡ 2 ^ l.rows.inputs;
  last_count : length l.self.last_masks.items ≡ 2 ^ l.rows.inputs;
  loaded : l.self.loaded ≡ l.fn.self.loaded;
  count : length l.self.firsts.items ≡ length l.fn.self.firsts.items;
}
