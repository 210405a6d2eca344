use Rattle.std.proofs.Common.{◌≡◌, length}
use Rattle.ca_every_vector.specs.code.Sure.{AreSure}
use Rattle.ca_every_vector.proofs.sure.find_sure.Given as goal

abbrev pub invariant-loop-place : goal.invariant-loop-place
invariant-loop-place l = record {
  nets : length l.values ≡ length l.chip.core.nets;
  sure : AreSure l.chip.core l.values;
}
