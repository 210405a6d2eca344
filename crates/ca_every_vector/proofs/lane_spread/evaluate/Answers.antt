use Rattle.std.proofs.Common.{ℕ, List, refl, sym, subst}
use Rattle.std.specs.List.{Contains}
use Rattle.ca_view.specs.Linked.{place_in}
use Rattle.ca_every_vector.specs.code.Lanes.{AreLanesSpread}
use Rattle.ca_every_vector.proofs.SpreadLemmas.{touched_has}
use Rattle.ca_every_vector.proofs.LaneSpreadLemmas.{lanes_more}
use Rattle.ca_every_vector.proofs.lane_spread.evaluate.Goals as goal

pub write-requires-clause-spread : goal.write-requires-clause-spread
write-requires-clause-spread c =
    let core = c.args.chip.now.core in
    subst (λ (list : List ℕ). AreLanesSpread core (place_in c.args.chip.now.ranks) c.args.u c.args.values.now c.args.others.now c.args.changed.now.items list)
    (sym c.deref.ensures.value)
    (lanes_more core (place_in c.args.chip.now.ranks) c.args.u c.args.values.now c.args.others.now c.args.changed.now.items c.args.touched.now.items _
    c.args.w _ c.requires.spread c.requires.placed refl c.in_ok-push-in-Some.ensures.items)

pub write-requires-clause-touched : goal.write-requires-clause-touched
write-requires-clause-touched c =
    subst (λ (list : List ℕ). Contains list c.args.w) (sym c.deref.ensures.value)
    (touched_has c.args.touched.now.items _ c.args.w _ refl c.in_ok-push-in-Some.ensures.items)
