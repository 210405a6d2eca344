use Rattle.std.proofs.Common.{◌≤◌, ◌-◌}
use Rattle.ca_places.specs.PlaceSet.{IsAsRoomy}
use Rattle.ca_credit.specs.code.Round.{IsPartOf}
use Rattle.ca_credit.proofs.place_sets.insert_between.Given as goal

abbrev pub invariant-places : goal.invariant-places
invariant-places l = record {
  room : IsAsRoomy l.into l.fn.into;
  onward : l.start ≤ l.from;
  within : l.from ≤ l.end;
  part : IsPartOf l.into l.set l.start l.from;
}

abbrev pub decreases-places : goal.decreases-places
decreases-places l = l.end - l.from
