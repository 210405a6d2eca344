use Rattle.ca_wiring.specs.code.Forest.{UnitesFirst}
use Rattle.ca_wiring.proofs.joined.Links.unite_all.Given as goal

abbrev pub invariant-loop-k : goal.invariant-loop-k
invariant-loop-k l = UnitesFirst l.spans l.k l.fn.self l.self
