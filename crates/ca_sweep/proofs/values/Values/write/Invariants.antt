use Rattle.ca_view.specs.Linked.{place_in}
use Rattle.ca_static.specs.LastTable.{last_at}
use Rattle.ca_sweep.specs.code.Changes.{IsWrittenTo}
use Rattle.ca_sweep.proofs.values.Values.write.Given as goal

abbrev pub invariant-loop-output : goal.invariant-loop-output
invariant-loop-output l =
    IsWrittenTo l.chip.core (place_in l.chip.ranks) l.w l.output (last_at l.table l.number) l.fn.self l.self
