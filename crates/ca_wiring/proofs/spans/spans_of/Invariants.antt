use Rattle.ca_wiring.specs.code.Spans.{AreSpansOf}
use Rattle.ca_wiring.proofs.spans.spans_of.Given as goal

abbrev pub invariant-loop-k : goal.invariant-loop-k
invariant-loop-k l = AreSpansOf l.bits l.raws l.k l.spans
