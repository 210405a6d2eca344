use Rattle.ca_net.specs.State.{value_at}
use Rattle.ca_every_vector.specs.code.Spread.{HasEntry}
use Rattle.ca_every_vector.proofs.given.has_entry.Given as goal

abbrev pub invariant-loop-output : goal.invariant-loop-output
invariant-loop-output l = HasEntry l.chip.core l.w (value_at l.values) l.table l.number l.output
