use Rattle.ca_view.specs.Linked.{place_in}
use Rattle.ca_view.specs.Readers.{row_at}
use Rattle.ca_sweep.proofs.ChangeLemmas.{IsMarkedTo}
use Rattle.ca_sweep.proofs.values.mark_readers.Given as goal

abbrev pub invariant-loop-k : goal.invariant-loop-k
invariant-loop-k l =
    IsMarkedTo l.chip.core (place_in l.chip.ranks) l.net (row_at l.chip.readers l.net) l.k l.fn.due l.due
