use Rattle.std.proofs.Common.{ℕ, ◌<◌, ◌≡◌, ◌≢◌}
use Rattle.ca_net.specs.declared.trit.Trit.TheVariants.{X}
use Rattle.ca_net.specs.State.{value_at}
use Rattle.ca_flat.specs.Chip.{output_net}
use Rattle.ca_sweep.specs.Seen.{flipped_outputs}
use Rattle.ca_every_vector.proofs.stays.are_flipped.Given as goal

abbrev pub invariant-loop-output : goal.invariant-loop-output
invariant-loop-output l = record {
  own : (output : ℕ) → output < l.output → value_at l.values (output_net l.chip.core l.u output) ≢ X;
  given : (output : ℕ) → output < l.output → value_at l.others (output_net l.chip.core l.u output) ≡ flipped_outputs l.chip.core l.u (value_at l.values) l.flips output;
}
