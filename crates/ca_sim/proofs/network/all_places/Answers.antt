use Rattle.std.proofs.Common.{◌+◌, sym, subst, arith}
use Rattle.ca_flat.specs.Chip.{count_of}
use Rattle.ca_view.specs.Linked.{place_in}
use Rattle.ca_places.proofs.PlaceLemmas.{holds_as}
use Rattle.ca_sim.specs.code.Marking.{HasPlacesTo}
use Rattle.ca_sim.proofs.Beginning.{places_more, places_skip}
use Rattle.ca_sim.proofs.network.all_places.Goals.{then-place-gt0, else-place-gt0}
use Rattle.ca_sim.proofs.network.all_places.Goals as goal

pub loop-u-preserved : goal.loop-u-preserved
loop-u-preserved c =
    let core = c.args.chip.now.core in
    let place_of = place_in c.args.chip.now.ranks in
    elim c.if-place-gt0.branch [
      | then-place-gt0 w ↦ subst (HasPlacesTo core place_of (c.loop-u.u + 1)) (sym w.due-is)
          (places_more core place_of c.loop-u.u c.rank-place.result c.loop-u.due w.insert.new.self (omega arith) c.rank-place.ensures
          (let some = w.if-place-gt0 in omega arith) w.insert.ensures.here w.insert.ensures.others
          (holds_as c.loop-u.due w.insert.new.self w.insert.ensures.room (count_of core + 1) c.loop-u.invariant.room) c.loop-u.invariant)
      | else-place-gt0 w ↦ subst (HasPlacesTo core place_of (c.loop-u.u + 1)) (sym w.due-is)
          (places_skip core place_of c.loop-u.u c.rank-place.result c.loop-u.due c.rank-place.ensures
          (λ some. let none = w.if-place-gt0 in absurd (omega arith)) c.loop-u.invariant)
    ]
