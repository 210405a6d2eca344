use Rattle.std.proofs.Common.{◌-◌, length}
use Rattle.ca_view.specs.Linked.{place_in}
use Rattle.ca_examiner.specs.code.Sweep.{IsSweptFrom}
use Rattle.ca_examiner.proofs.sweep.mark_back.Given as goal

abbrev pub invariant-loop-done : goal.invariant-loop-done
invariant-loop-done l =
    IsSweptFrom l.chip.core (place_in l.chip.ranks) l.fn.marks.items l.marks.items (length l.order - l.done)
