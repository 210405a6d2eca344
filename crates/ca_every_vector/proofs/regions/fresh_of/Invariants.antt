use Rattle.std.specs.List.{All}
use Rattle.ca_view.specs.Linked.{IsPlaced, place_in}
use Rattle.ca_every_vector.proofs.regions.fresh_of.Given as goal

abbrev pub invariant-loop-place : goal.invariant-loop-place
invariant-loop-place l = All (IsPlaced l.chip.core (place_in l.chip.ranks)) l.fresh.items
