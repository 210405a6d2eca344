use Rattle.ca_judge.specs.Attempt.{IsTriedOn}
use Rattle.ca_bridges.specs.code.Parts.{AreEach}
use Rattle.ca_bridges.proofs.parts.choices_of.Given as goal

abbrev pub invariant-loop-k : goal.invariant-loop-k
invariant-loop-k l = AreEach (λ view choice. IsTriedOn view.core view.ranks choice) l.views l.k l.choices.items
