use Rattle.std.proofs.Common.{◌≡◌, ◌<◌, ◌^◌, length}
use Rattle.std.specs.Prelude.{IfSome}
use Rattle.ca_flat.specs.Chip.{inputs_at}
use Rattle.ca_every_vector.specs.code.Region.{AreKnownWithin}
use Rattle.ca_every_vector.proofs.region.evaluate.Given as goal

abbrev pub invariant-loop-output : goal.invariant-loop-output
invariant-loop-output l = record {
  nets : length l.values ≡ length l.chip.core.nets;
  within : AreKnownWithin l.chip.core l.inputs l.parts l.values;
  known : IfSome l.number (λ number. number < 2 ^ inputs_at l.chip.core l.w);
}
