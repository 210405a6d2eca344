use Rattle.std.proofs.Common.{◌≡◌, ◌-◌, sym, ◌∙◌, ap, subst}
use Rattle.std.specs.Prelude.{slice_get, slice_index}
use Rattle.std.proofs.lemmas.Option.{slice_get_within}
use Rattle.ca_flat.specs.Chip.{Chip}
use Rattle.ca_view.specs.Linked.{IsPlaced, IsPlace, place_in}
use Rattle.ca_view.specs.View.{Viewed}
use Rattle.ca_view.specs.code.View.{IsKept}
use Rattle.ca_view.proofs.LinkedLemmas.{placed_at, placed_same}
use Rattle.ca_view.proofs.view.View.order.Goals as goal

pub order-requires : goal.order-requires
order-requires c =
    let i = c.self.inside in
    let p = subst (λ (v : Viewed). IsPlace v.core (place_in v.ranks) c.args.rank) (sym c.self.view_is) c.requires in
    slice_get_within i.chip.now.order (c.args.rank - 1) p.instance
    (placed_at i.chip.now c.self.invariant.wired i.ranks.items c.self.invariant.is_view.ranked c.args.rank p).1

pub returns-clause-placed : goal.returns-clause-placed
returns-clause-placed c =
    let v = c.args.self.now in
    let kept = subst (IsKept c.self.inside.pins) c.self.view_is c.self.invariant in
    let at = ap (λ (v : Viewed). slice_get v.chip.order (c.args.rank - 1)) (sym c.self.view_is) ∙ c.order.ensures in
    let requires = subst (λ (core : Chip). IsPlace core (place_in v.ranks) c.args.rank) kept.is_view.core_is c.requires in
    let same = placed_same v.chip kept.wired v.ranks kept.is_view.ranked c.args.rank c.order.result.0 requires at in
    subst (IsPlaced v.core (place_in v.ranks)) same c.requires.is_placed

pub returns-clause-at : goal.returns-clause-at
returns-clause-at c =
    let v = c.args.self.now in
    let kept = subst (IsKept c.self.inside.pins) c.self.view_is c.self.invariant in
    let at = ap (λ (v : Viewed). slice_get v.chip.order (c.args.rank - 1)) (sym c.self.view_is) ∙ c.order.ensures in
    let requires = subst (λ (core : Chip). IsPlace core (place_in v.ranks) c.args.rank) kept.is_view.core_is c.requires in
    let same = placed_same v.chip kept.wired v.ranks kept.is_view.ranked c.args.rank c.order.result.0 requires at in
    subst (λ n. slice_index v.ranks n ≡ c.args.rank) same c.requires.at
