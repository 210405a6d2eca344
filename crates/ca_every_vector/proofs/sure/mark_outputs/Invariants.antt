use Rattle.std.proofs.Common.{◌≡◌, length}
use Rattle.ca_every_vector.specs.code.Sure.{AreSure}
use Rattle.ca_every_vector.proofs.sure.mark_outputs.Given as goal

abbrev pub invariant-loop-output : goal.invariant-loop-output
invariant-loop-output l = record {
  nets : length l.values ≡ length l.chip.core.nets;
  sure : AreSure l.chip.core l.values;
}
