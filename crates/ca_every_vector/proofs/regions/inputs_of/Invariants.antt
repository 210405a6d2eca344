use Rattle.std.proofs.Common.{ℕ, ◌<◌, ◌≤◌, length}
use Rattle.ca_every_vector.specs.code.Region.{input_at}
use Rattle.ca_every_vector.proofs.regions.inputs_of.Given as goal

abbrev pub invariant-loop-place : goal.invariant-loop-place
invariant-loop-place l = record {
  few : length l.inputs.items ≤ l.place;
  known : (j : ℕ) → j < length l.inputs.items → input_at l.inputs.items j < length l.chip.core.inputs;
}
