use Rattle.std.proofs.Common.{◌≡◌, take}
use Rattle.ca_every_vector.proofs.every_vector.output_nets.Given as goal

abbrev pub invariant-loop-output : goal.invariant-loop-output
invariant-loop-output l = l.nets.items ≡ take l.output l.chip.core.outputs
