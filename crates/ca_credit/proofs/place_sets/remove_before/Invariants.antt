use Rattle.std.proofs.Common.{ℕ, ◌<◌, ◌≤◌, ◌-◌, ◌↔◌}
use Rattle.ca_places.specs.PlaceSet.{Has, IsAsRoomy}
use Rattle.ca_credit.proofs.place_sets.remove_before.Given as goal

abbrev pub invariant-places : goal.invariant-places
invariant-places l = record {
  room : IsAsRoomy l.set l.fn.set;
  within : l.from ≤ l.start;
  none : (place : ℕ) → place < l.from → ¬ (Has l.set place);
  others : (place : ℕ) → l.from ≤ place → Has l.set place ↔ Has l.fn.set place;
}

abbrev pub decreases-places : goal.decreases-places
decreases-places l = l.start - l.from
