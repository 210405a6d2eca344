use Rattle.std.proofs.Common.{List, ℕ, inr, subst, get_or}
use Rattle.std.specs.List.{All, Contains}
use Rattle.std.proofs.lemmas.List.Elements.{Contains-get_or}
use Rattle.ca_net.specs.State.{value_at}
use Rattle.ca_view.specs.Linked.{place_in}
use Rattle.ca_every_vector.specs.code.Spread.{AreInside, IsChangedInside}
use Rattle.ca_every_vector.proofs.SpreadLemmas.{listed_known, stays_of_checks}
use Rattle.ca_every_vector.proofs.stays.spreads_inside.Goals as goal

pub are_changed_inside-requires-clause-known : goal.are_changed_inside-requires-clause-known
are_changed_inside-requires-clause-known c = λ k d less.
    let core = c.args.chip.now.core in
    let place_of = place_in c.args.chip.now.ranks in
    let list = c.as_slice-3.result.now in
    listed_known core place_of place_of c.args.u c.args.values.now c.spread.new.others c.spread.new.changed.items c.spread.new.touched.items (get_or list k d)
    c.linked.ensures.linked.is_chip c.in_ok-spread.ensures
    (subst (λ (items : List ℕ). Contains items (get_or list k d)) c.as_slice-3.ensures.value (Contains-get_or list k d less))

pub returns-clause-stays : goal.returns-clause-stays
returns-clause-stays c = λ is.
    let core = c.args.chip.now.core in
    let place_of = place_in c.args.chip.now.ranks in
    let values = c.args.values.now in
    let others = c.spread.new.others in (
      value_at others,
      stays_of_checks core place_of place_of c.linked.ensures.linked.is_chip c.args.chip.now.lists c.linked.ensures.nets c.args.u c.args.flips values others
          c.spread.new.changed.items c.spread.new.touched.items c.in_ok-spread.ensures (c.are_flipped.ensures c.if-not-are_flipped.false)
          (subst (AreInside core values others) c.as_slice-2.ensures.value (c.are_touched_inside.ensures c.if-not-are_touched_inside.false))
          (λ k d less. inr (subst (All (IsChangedInside core c.args.chip.now.lists values others)) c.as_slice-3.ensures.value (c.are_changed_inside.ensures is) k d less)),
    )
