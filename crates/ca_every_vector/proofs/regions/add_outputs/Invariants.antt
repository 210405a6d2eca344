use Rattle.std.proofs.Common.{ℕ, ◌<◌, length}
use Rattle.std.specs.List.{All, Contains}
use Rattle.ca_flat.specs.Chip.{output_net}
use Rattle.ca_every_vector.specs.code.Region.{IsLonger}
use Rattle.ca_every_vector.proofs.regions.add_outputs.Given as goal

abbrev pub invariant-loop-output : goal.invariant-loop-output
invariant-loop-output l = record {
  known : All (λ net. net < length l.chip.core.nets) l.nets.items;
  outputs : (output : ℕ) → output < l.output → Contains l.nets.items (output_net l.chip.core l.w output);
  longer : IsLonger l.fn.nets.items l.nets.items;
}
