use Rattle.std.proofs.Common.{subst}
use Rattle.std.proofs.lemmas.List.Elements.{All-get_or}
use Rattle.std.proofs.lemmas.Option.{get_or_from_slice_get, slice_get_within}
use Rattle.ca_view.specs.Linked.{IsPlaced, place_in}
use Rattle.ca_every_vector.proofs.lane_spread.spread.Goals as goal

pub is_touched-requires-clause-placed : goal.is_touched-requires-clause-placed
is_touched-requires-clause-placed c =
    let w = c.entry-w.result in
    let parts = c.args.parts.now in
    subst (IsPlaced c.args.chip.now.core (place_in c.args.chip.now.ranks)) (get_or_from_slice_get parts c.loop-place.place w w c.entry-w.ensures)
    (All-get_or (IsPlaced c.args.chip.now.core (place_in c.args.chip.now.ranks)) parts c.loop-place.place w (slice_get_within parts c.loop-place.place w c.entry-w.ensures) c.requires.placed)

pub evaluate-requires-clause-placed : goal.evaluate-requires-clause-placed
evaluate-requires-clause-placed c =
    let w = c.entry-w.result in
    let parts = c.args.parts.now in
    subst (IsPlaced c.args.chip.now.core (place_in c.args.chip.now.ranks)) (get_or_from_slice_get parts c.loop-place.place w w c.entry-w.ensures)
    (All-get_or (IsPlaced c.args.chip.now.core (place_in c.args.chip.now.ranks)) parts c.loop-place.place w (slice_get_within parts c.loop-place.place w c.entry-w.ensures) c.requires.placed)
