use Rattle.ca_bridges.specs.Numbers.{AreAimsUpTo}
use Rattle.ca_bridges.proofs.numbers.aims_at.Given as goal

abbrev pub invariant-loop-k : goal.invariant-loop-k
invariant-loop-k l = AreAimsUpTo l.numbers l.aims l.k l.places
