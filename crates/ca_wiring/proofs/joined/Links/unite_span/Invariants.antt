use Rattle.ca_wiring.specs.code.Forest.{UnitesSpan}
use Rattle.ca_wiring.proofs.joined.Links.unite_span.Given as goal

abbrev pub invariant-loop-step : goal.invariant-loop-step
invariant-loop-step l = UnitesSpan l.span l.step l.fn.self l.self
