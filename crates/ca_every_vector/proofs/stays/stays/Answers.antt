use Rattle.std.proofs.Common.{ℕ, ◌<◌, List, subst, sym, get_or}
use Rattle.std.specs.List.{Contains}
use Rattle.std.proofs.lemmas.List.Elements.{Contains-get_or}
use Rattle.ca_view.specs.Linked.{place_in}
use Rattle.ca_every_vector.proofs.SpreadLemmas.{listed_known}
use Rattle.ca_every_vector.proofs.stays.stays.Goals as goal

pub restore-requires-clause-known : goal.restore-requires-clause-known
restore-requires-clause-known c = λ k d less.
    let core = c.args.chip.now.core in
    let place_of = place_in c.args.chip.now.ranks in
    let list = c.as_slice.result.now in
    subst (λ n. get_or list k d < n) (sym c.requires.nets)
    (listed_known core place_of place_of c.args.u c.args.values.now c.spreads_inside.new.others c.spreads_inside.new.changed.items c.spreads_inside.new.touched.items (get_or list k d)
    c.linked.ensures.linked.is_chip c.in_ok-stays.ensures.spread
    (subst (λ (items : List ℕ). Contains items (get_or list k d)) c.as_slice.ensures.value (Contains-get_or list k d less)))
