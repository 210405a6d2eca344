use Rattle.std.proofs.Common.{ℕ, ◌≤◌, ◌<◌, ◌-◌}
use Rattle.ca_places.specs.PlaceSet.{Has, IsAsRoomy}
use Rattle.ca_confined.specs.code.Clear.{AreBelow}
use Rattle.ca_confined.proofs.clear.clear.Given as goal

abbrev pub invariant-loop-place : goal.invariant-loop-place
invariant-loop-place l = record {
  room : IsAsRoomy l.set l.fn.set;
  low : (place : ℕ) → place < l.from → Has l.set place → ⊥;
  below : AreBelow l.set l.end;
  within : l.from ≤ l.end;
}

abbrev pub decreases-loop-place : goal.decreases-loop-place
decreases-loop-place l = l.end - l.from
