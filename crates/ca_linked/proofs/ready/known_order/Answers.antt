use Rattle.std.proofs.Common.{subst}
use Rattle.ca_linked.specs.code.Feeding.{IsOrderCause}
use Rattle.ca_linked.proofs.ReadyLemmas.{no_such_loop}
use Rattle.ca_linked.proofs.ready.known_order.Goals as goal

pub unreachable-requires : goal.unreachable-requires
unreachable-requires c =
    absurd (no_such_loop c.args.draft.now c.in-Err-Loop.field-0-0 c.requires.no_loop
    (subst (IsOrderCause c.args.draft.now) c.in-Err-Loop.field-0-is c.in-Err-Loop.ensures.cause))
