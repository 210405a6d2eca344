use Rattle.ca_net.specs.State.{value_at}
use Rattle.ca_flat.specs.Chip.{net_of}
use Rattle.ca_sweep.proofs.NumberLemmas.{IsNumberTo}
use Rattle.ca_every_vector.proofs.given.number_at.Given as goal

abbrev pub invariant-loop-pin : goal.invariant-loop-pin
invariant-loop-pin l = IsNumberTo (λ pin. value_at l.values (net_of l.chip.core l.w pin)) l.pin l.number
