use Rattle.std.proofs.Common.{◌<◌, length, arith}
use Rattle.ca_pin_sets.proofs.FoldLemmas.{placed_with, placed_without}
use Rattle.ca_pin_sets.proofs.resolving.places_of.Goals as goal
use Rattle.ca_pin_sets.proofs.resolving.places_of.Goals.{then-homes-place+in_ok-push}
use Rattle.ca_pin_sets.proofs.resolving.places_of.Goals.{else-homes-place+in_ok-push-2}

pub loop-place-preserved : goal.loop-place-preserved
loop-place-preserved c =
    let within : c.loop-place.place < length c.args.homes.now = omega arith in
    elim c.if-homes-place.branch [
      | then-homes-place+in_ok-push w ↦ rw (w.places-is, w.before-is) (placed_with c.args.homes.now c.loop-place.places.items _ c.loop-place.place
          c.loop-place.before within w.if-homes-place.true c.loop-place.invariant (w.in_ok-push.ensures).items)
      | else-homes-place+in_ok-push-2 w ↦ rw (w.places-is, w.before-is) (placed_without c.args.homes.now c.loop-place.places.items _ c.loop-place.place
          c.loop-place.before within w.if-homes-place.false c.loop-place.invariant (w.in_ok-push-2.ensures).items)
    ]
