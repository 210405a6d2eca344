use Rattle.std.proofs.Common.{◌≡◌, ◌-◌, ℕ, length, drop}
use Rattle.ca_lanes.specs.Plane.{lane_of}
use Rattle.ca_lanes.specs.Choice.{choices_of, choice_at}
use Rattle.ca_lanes.specs.code.Set.{constant_choice}
use Rattle.ca_lanes.proofs.constants.set_constants.Given as goal

abbrev pub invariant-loop-following : goal.invariant-loop-following
invariant-loop-following l = record {
  set : (lane net : ℕ) → choice_at (choices_of l.nets lane) net
      ≡ constant_choice (drop (length l.constants - l.following) l.constants) (lane_of l.fn.loaded lane) net (choice_at (choices_of l.fn.nets lane) net);
  count : length l.nets ≡ length l.fn.nets;
}
