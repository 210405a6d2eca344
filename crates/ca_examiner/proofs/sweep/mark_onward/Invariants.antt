use Rattle.ca_view.specs.Linked.{place_in}
use Rattle.ca_examiner.specs.code.Sweep.{IsSweptTo}
use Rattle.ca_examiner.proofs.sweep.mark_onward.Given as goal

abbrev pub invariant-loop-place : goal.invariant-loop-place
invariant-loop-place l =
    IsSweptTo l.chip.core (place_in l.chip.ranks) l.open_nets l.u l.marks.items l.place
