use Rattle.std.proofs.Common.{◌≡◌, ◌<◌, ℕ, length}
use Rattle.ca_lanes.specs.Plane.{lane_of}
use Rattle.ca_lanes.specs.Choice.{choices_of, choice_at}
use Rattle.ca_lanes.specs.code.Choice.{choice_over, unknown}
use Rattle.ca_lanes.proofs.frame.forget.Given as goal

abbrev pub invariant-loop-net : goal.invariant-loop-net
invariant-loop-net l = record {
  unknown : (lane net : ℕ) → net < l.net → choice_at (choices_of l.nets lane) net ≡ choice_over (lane_of l.fn.loaded lane) unknown;
  count : length l.nets ≡ length l.fn.nets;
}
