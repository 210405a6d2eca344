use Rattle.ca_net.specs.State.{value_at}
use Rattle.ca_sweep.specs.code.Kept.{AreOutputsClear}
use Rattle.ca_sweep.proofs.clear.are_outputs_clear.Given as goal

abbrev pub invariant-loop-output : goal.invariant-loop-output
invariant-loop-output l = AreOutputsClear l.chip.core (value_at l.lasts) l.marks l.u l.output
