use Rattle.std.proofs.Common.{◌+◌, ◌-◌, ◌≤◌}
use Rattle.ca_flat.specs.Chip.{count_of}
use Rattle.ca_view.specs.Linked.{place_in}
use Rattle.ca_confined.specs.code.Scope.{IsScopeRoom, IsReachedTo}
use Rattle.ca_confined.proofs.scope.Scope.find.Given as goal

abbrev pub invariant-loop-place : goal.invariant-loop-place
invariant-loop-place l = record {
  room : IsScopeRoom l.chip.core (place_in l.chip.ranks) l.self;
  reached : IsReachedTo l.chip.core (place_in l.chip.ranks) l.u l.from l.self;
  within : l.from ≤ count_of l.chip.core + 1;
}

abbrev pub decreases-loop-place : goal.decreases-loop-place
decreases-loop-place l = count_of l.chip.core + 1 - l.from
