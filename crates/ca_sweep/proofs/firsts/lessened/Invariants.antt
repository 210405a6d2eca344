use Rattle.ca_net.specs.State.{value_at}
use Rattle.ca_sweep.specs.code.Firsts.{IsLessenedTo}
use Rattle.ca_sweep.proofs.firsts.lessened.Given as goal

abbrev pub invariant-loop-output : goal.invariant-loop-output
invariant-loop-output l = IsLessenedTo l.chip.core (value_at l.lasts) (value_at l.values) l.firsts l.w l.output l.number l.least
