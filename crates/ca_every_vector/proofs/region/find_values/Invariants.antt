use Rattle.std.proofs.Common.{◌≡◌, length}
use Rattle.ca_every_vector.specs.code.Region.{AreKnownWithin}
use Rattle.ca_every_vector.proofs.region.find_values.Given as goal

abbrev pub invariant-loop-place : goal.invariant-loop-place
invariant-loop-place l = record {
  nets : length l.values ≡ length l.chip.core.nets;
  within : AreKnownWithin l.chip.core l.inputs l.parts l.values;
}
