use Rattle.std.proofs.Common.{subst}
use Rattle.ca_order.specs.Order.{order_of}
use Rattle.ca_order.specs.OrderFault.{Reads}
use Rattle.ca_order.proofs.AllowedLemmas.{reads_allowed, memory_is_free}
use Rattle.ca_order.proofs.order.read_order_for.Goals as goal

pub returns-in_err-places-clause-exact : goal.returns-in_err-places-clause-exact
returns-in_err-places-clause-exact g c =
    memory_is_free (g.N.Network.circuit c.args.net.now) c.args.first.now c.args.last.now c.args.bytes.now c.from_residual.result
    c.from_residual.ensures.1

pub returns-clause-allowed : goal.returns-clause-allowed
returns-clause-allowed g c =
    reads_allowed (g.N.Network.circuit c.args.net.now) c.args.first.now c.args.last.now c.in_ok-places.places c.args.bytes.now
    c.read_order.result c.in_ok-places.ensures
    (subst (λ places. Reads c.read_order.result (order_of places c.args.bytes.now)) c.as_slice.ensures c.read_order.ensures.exact)
