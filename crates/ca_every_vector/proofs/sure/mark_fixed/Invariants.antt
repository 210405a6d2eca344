use Rattle.std.proofs.Common.{◌≡◌, length}
use Rattle.ca_every_vector.specs.code.Sure.{AreSure}
use Rattle.ca_every_vector.proofs.sure.mark_fixed.Given as goal

abbrev pub invariant-loop-k : goal.invariant-loop-k
invariant-loop-k l = record {
  nets : length l.values ≡ length l.chip.core.nets;
  sure : AreSure l.chip.core l.values;
}
