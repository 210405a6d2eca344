use Rattle.ca_net.specs.State.{value_at}
use Rattle.ca_view.specs.Linked.{place_in}
use Rattle.ca_sweep.specs.Seen.{flipped_outputs}
use Rattle.ca_sweep.specs.code.Changes.{IsWrittenTo}
use Rattle.ca_sweep.proofs.values.Values.flip.Given as goal

abbrev pub invariant-loop-output : goal.invariant-loop-output
invariant-loop-output l =
    IsWrittenTo l.chip.core (place_in l.chip.ranks) l.u l.output
    (flipped_outputs l.chip.core l.u (value_at l.fn.self.values) l.flips) l.fn.self l.self
