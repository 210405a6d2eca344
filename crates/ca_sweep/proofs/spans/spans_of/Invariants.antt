use Rattle.ca_sweep.specs.code.Spans.{AreSpansTo}
use Rattle.ca_sweep.proofs.spans.spans_of.Given as goal

abbrev pub invariant-loop-place : goal.invariant-loop-place
invariant-loop-place l = AreSpansTo l.chip.core l.list l.spans.items l.place
