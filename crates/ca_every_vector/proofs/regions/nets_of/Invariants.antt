use Rattle.std.proofs.Common.{◌<◌, length, take}
use Rattle.std.specs.List.{All}
use Rattle.ca_every_vector.specs.code.Region.{AreInputsIn, IsOutIn}
use Rattle.ca_every_vector.proofs.regions.nets_of.Given as goal

abbrev pub invariant-loop-place : goal.invariant-loop-place
invariant-loop-place l = record {
  known : All (λ net. net < length l.chip.core.nets) l.nets.items;
  inputs_in : AreInputsIn l.chip.core l.inputs l.nets.items (length l.inputs);
  parts_in : All (IsOutIn l.chip.core l.nets.items) (take l.place l.parts);
}
