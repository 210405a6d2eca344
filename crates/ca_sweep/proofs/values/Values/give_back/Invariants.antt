use Rattle.ca_net.specs.State.{value_at}
use Rattle.ca_sweep.specs.code.Held.{IsGivenBackTo}
use Rattle.ca_sweep.proofs.values.Values.give_back.Given as goal

abbrev pub invariant-loop-output : goal.invariant-loop-output
invariant-loop-output l = IsGivenBackTo l.chip.core l.w l.output (value_at l.lasts) l.fn.self l.self
