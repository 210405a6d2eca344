use Rattle.std.proofs.Common.{ℕ, ◌<◌, ◌≤◌, ◌-◌}
use Rattle.ca_places.specs.PlaceSet.{Has, IsAsRoomy}
use Rattle.ca_credit.proofs.place_sets.clear.Given as goal

abbrev pub invariant-places : goal.invariant-places
invariant-places l = record {
  room : IsAsRoomy l.set l.fn.set;
  within : l.from ≤ l.end;
  below : (place : ℕ) → Has l.set place → place < l.end;
  none : (place : ℕ) → place < l.from → ¬ (Has l.set place);
}

abbrev pub decreases-places : goal.decreases-places
decreases-places l = l.end - l.from
