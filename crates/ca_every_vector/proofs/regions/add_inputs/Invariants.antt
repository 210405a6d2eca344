use Rattle.std.proofs.Common.{◌<◌, length}
use Rattle.std.specs.List.{All}
use Rattle.ca_every_vector.specs.code.Region.{AreInputsIn}
use Rattle.ca_every_vector.proofs.regions.add_inputs.Given as goal

abbrev pub invariant-loop-place : goal.invariant-loop-place
invariant-loop-place l = record {
  known : All (λ net. net < length l.chip.core.nets) l.nets.items;
  inputs_in : AreInputsIn l.chip.core l.inputs l.nets.items l.place;
}
