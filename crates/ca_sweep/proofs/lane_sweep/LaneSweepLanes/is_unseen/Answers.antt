use Rattle.std.proofs.Common.{◌≡◌, ◌+◌, ◌*◌, subst, sym, false}
use Rattle.ca_net.specs.State.{value_at}
use Rattle.ca_planes.specs.Plane.{lane_at}
use Rattle.ca_view.specs.Linked.{IsPlaced, place_in}
use Rattle.ca_view.specs.Places.{cell_number}
use Rattle.ca_sweep.specs.Seen.{AreSameAt, AreUnseen, Laned, trits_in}
use Rattle.ca_sweep.proofs.LaneFindLemmas.{laned_unseen}
use Rattle.ca_sweep.proofs.lane_sweep.LaneSweepLanes.is_unseen.Goals as goal

pub returns : goal.returns
returns c = λ goods same on.
    let kept = c.self.invariant in
    let found = c.if-not-self.false in
    let placed = subst (λ (s : Laned). IsPlaced s.chip (place_in s.places) c.args.u) (sym c.self.view_is) c.requires.placed in
    let agree = subst (λ (s : Laned). AreSameAt s.pinned (value_at (trits_in s.ones c.args.lane)) goods) (sym c.self.view_is) same in
    subst (λ (s : Laned). AreUnseen s.chip goods c.args.u) c.self.view_is
    (laned_unseen c.self.inside.chip.now.core (place_in c.self.inside.chip.now.ranks) (cell_number c.self.inside.chip.now.chip) c.linked.ensures.linked
    (kept.all_static (kept.static_found found)) c.self.inside.pinned.items c.self.inside.ones.items c.self.inside.seen.items c.args.u c.args.lane kept.pinned_are kept.nets (kept.found found)
    placed c.requires.lane
    (subst (λ list. lane_at list (4 * c.args.u + 1) c.args.lane ≡ false) c.deref.ensures.value (c.is_unset.ensures.one on))
    (subst (λ list. lane_at list (4 * c.args.u + 2) c.args.lane ≡ false) c.deref.ensures.value (c.is_unset.ensures.other on))
    (subst (λ list. lane_at list (4 * c.args.u + 3) c.args.lane ≡ false) c.deref.ensures.value (c.is_unset.ensures.both on)) goods agree)
