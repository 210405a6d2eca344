use Rattle.std.proofs.Common.{◌<◌, ◌≤◌, length, ◌-◌}
use Rattle.ca_sweep.specs.code.Spans.{start_of}
use Rattle.ca_sweep.proofs.spans.DefectSpans.span_at.Given as goal

abbrev pub invariant-spans : goal.invariant-spans
invariant-spans l = record {
  within : l.number < length l.self-inside.spans.items;
  before : start_of l.self-inside.spans.items l.number ≤ l.place;
}

abbrev pub decreases-spans : goal.decreases-spans
decreases-spans l = length l.self-inside.spans.items - l.number
