use Rattle.std.proofs.Common.{◌≡◌, length}
use Rattle.ca_every_vector.specs.code.Sure.{AreSure}
use Rattle.ca_every_vector.proofs.sure.mark_inputs.Given as goal

abbrev pub invariant-loop-input : goal.invariant-loop-input
invariant-loop-input l = record {
  nets : length l.values ≡ length l.chip.core.nets;
  sure : AreSure l.chip.core l.values;
}
