use Rattle.std.proofs.Common.{◌<◌, sym, subst}
use Rattle.std.specs.List.{All}
use Rattle.ca_linked.proofs.WiredLemmas.{order_within}
use Rattle.ca_linked.proofs.wiring.tables_of.Goals as goal

pub places_of-requires-clause-within : goal.places_of-requires-clause-within
places_of-requires-clause-within c =
    subst (λ count. All (λ u. u < count) c.args.judged.now.order) (sym c.parts.ensures)
    (order_within c.args.draft.now c.args.judged.now.order c.requires.found.ordered)
