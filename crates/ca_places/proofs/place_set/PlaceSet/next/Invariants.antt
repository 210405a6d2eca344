use Rattle.std.proofs.Common.{◌*◌}
use Rattle.ca_places.proofs.PlaceLemmas.{NoneBetween}
use Rattle.ca_places.proofs.place_set.PlaceSet.next.Given as goal

abbrev pub invariant-loop-place : goal.invariant-loop-place
invariant-loop-place l = NoneBetween l.self.words.items l.from (64 * l.place)
