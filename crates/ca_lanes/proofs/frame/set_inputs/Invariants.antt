use Rattle.std.proofs.Common.{◌≡◌, ◌+◌, ◌-◌, ℕ, length, drop}
use Rattle.ca_lanes.specs.Choice.{choices_of, choice_at}
use Rattle.ca_lanes.specs.code.Set.{input_choice}
use Rattle.ca_lanes.proofs.frame.set_inputs.Given as goal

abbrev pub invariant-loop-following : goal.invariant-loop-following
invariant-loop-following l = record {
  set : (lane net : ℕ) → choice_at (choices_of l.nets lane) net
      ≡ input_choice (drop (length l.inputs - l.following) l.inputs) l.pairs (l.fn.bit + (length l.inputs - l.following)) lane net (choice_at (choices_of l.fn.nets lane) net);
  count : length l.nets ≡ length l.fn.nets;
}
