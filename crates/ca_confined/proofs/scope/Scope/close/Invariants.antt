use Rattle.std.proofs.Common.{◌+◌, ◌≤◌}
use Rattle.ca_flat.specs.Chip.{count_of}
use Rattle.ca_view.specs.Linked.{place_in}
use Rattle.ca_confined.specs.code.Scope.{IsScopeRoom, IsClosedFrom, AddsDrivers}
use Rattle.ca_confined.proofs.scope.Scope.close.Given as goal

abbrev pub invariant-loop-place : goal.invariant-loop-place
invariant-loop-place l = record {
  room : IsScopeRoom l.chip.core (place_in l.chip.ranks) l.self;
  kept : AddsDrivers (count_of l.chip.core + 1) l.fn.self l.self;
  closed : IsClosedFrom l.chip.core (place_in l.chip.ranks) l.place l.self;
  within : l.place ≤ count_of l.chip.core + 1;
}

abbrev pub decreases-loop-place : goal.decreases-loop-place
decreases-loop-place l = l.place
