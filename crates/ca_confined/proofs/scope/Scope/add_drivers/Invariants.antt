use Rattle.ca_view.specs.Linked.{place_in}
use Rattle.ca_confined.specs.code.Scope.{IsScopeRoom, HasDriversTo, AddsDrivers}
use Rattle.ca_confined.proofs.scope.Scope.add_drivers.Given as goal

abbrev pub invariant-loop-pin : goal.invariant-loop-pin
invariant-loop-pin l = record {
  room : IsScopeRoom l.chip.core (place_in l.chip.ranks) l.self;
  adds : AddsDrivers l.place l.fn.self l.self;
  has : HasDriversTo l.chip.core (place_in l.chip.ranks) l.u l.pin l.self;
}
