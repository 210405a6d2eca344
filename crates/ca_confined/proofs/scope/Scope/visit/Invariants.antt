use Rattle.ca_view.specs.Linked.{place_in}
use Rattle.ca_confined.specs.code.Scope.{IsScopeRoom, IsVisitedTo}
use Rattle.ca_confined.proofs.scope.Scope.visit.Given as goal

abbrev pub invariant-loop-output : goal.invariant-loop-output
invariant-loop-output l = record {
  room : IsScopeRoom l.chip.core (place_in l.chip.ranks) l.self;
  visited : IsVisitedTo l.chip.core (place_in l.chip.ranks) l.u l.output l.fn.self l.self;
}
