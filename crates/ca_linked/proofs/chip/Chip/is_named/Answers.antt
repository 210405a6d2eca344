use Rattle.std.proofs.Common.{◌≡◌, subst}
use Rattle.std.specs.Prelude.{IsSomeAnd, slice_get}
use Rattle.ca_linked.proofs.CellLemmas.{library_within, has_named, named_at}
use Rattle.ca_linked.proofs.chip.Chip.is_named.Goals as goal

pub instance_name-requires : goal.instance_name-requires
instance_name-requires c =
    library_within c.args.self.now c.wired.ensures c.args.k c.order.result.0 c.order.ensures

pub returns-clause-named : goal.returns-clause-named
returns-clause-named c = λ passed.
    has_named c.args.self.now c.wired.ensures c.args.k c.order.result.0 c.args.name.now
    c.order.ensures
    (subst (λ name. IsSomeAnd (slice_get c.args.self.now.parts c.order.result.0) (λ part. part.name ≡ name))
    (c.is.ensures.0 passed) c.instance_name.ensures)

pub returns-clause-other : goal.returns-clause-other
returns-clause-other c = λ w at found.
    c.is.ensures.1 (named_at c.args.self.now c.args.k c.order.result.0
    c.instance_name.result.now c.args.name.now c.order.ensures c.instance_name.ensures w at found)
