use Rattle.std.proofs.Common.{List, ℕ, subst}
use Rattle.std.specs.List.{Contains}
use Rattle.ca_view.specs.Linked.{place_in}
use Rattle.ca_every_vector.proofs.SpreadLemmas.{entry_listed, listed_known}
use Rattle.ca_every_vector.proofs.stays.spread.Goals as goal

pub spread_from-requires-clause-known : goal.spread_from-requires-clause-known
spread_from-requires-clause-known c =
    let core = c.args.chip.now.core in
    let place_of = place_in c.args.chip.now.ranks in
    listed_known core place_of place_of c.args.u c.args.values.now c.loop-from.others c.loop-from.changed.items c.loop-from.touched.items c.entry-net.result
    c.linked.ensures.linked.is_chip c.loop-from.invariant
    (subst (λ (list : List ℕ). Contains list c.entry-net.result) c.as_slice.ensures.value (entry_listed c.as_slice.result.now c.loop-from.from c.entry-net.result c.entry-net.ensures))
