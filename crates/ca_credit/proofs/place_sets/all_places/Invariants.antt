use Rattle.std.proofs.Common.{◌<◌, ◌↔◌, ℕ}
use Rattle.ca_places.specs.PlaceSet.{Has, HasRoomFor}
use Rattle.ca_credit.proofs.place_sets.all_places.Given as goal

abbrev pub invariant-loop-place : goal.invariant-loop-place
invariant-loop-place l = ((place : ℕ) → Has l.set place ↔ (place < l.place)) × HasRoomFor l.set l.count
