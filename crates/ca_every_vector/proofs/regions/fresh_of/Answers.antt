use Rattle.ca_view.specs.Linked.{IsPlaced, place_in}
use Rattle.ca_every_vector.proofs.NetLemmas.{all_push, entry_has}
use Rattle.ca_every_vector.proofs.regions.fresh_of.Goals as goal
use Rattle.ca_every_vector.proofs.regions.fresh_of.Goals.{then-u-tried+in_ok-push, else-u-tried+else-not-tried-u}

pub loop-place-preserved : goal.loop-place-preserved
loop-place-preserved c = elim c.if-u-tried.branch [
  | then-u-tried+in_ok-push w ↦ rw (w.fresh-is)
      (all_push c.loop-place.fresh.items _ c.entry-u.result w.in_ok-push.ensures.items (IsPlaced c.args.chip.now.core (place_in c.args.chip.now.ranks))
      (entry_has (IsPlaced c.args.chip.now.core (place_in c.args.chip.now.ranks)) c.args.parts.now c.loop-place.place c.entry-u.result c.entry-u.ensures c.requires)
      c.loop-place.invariant)
  | else-u-tried+else-not-tried-u w ↦ rw (w.fresh-is) c.loop-place.invariant
]
