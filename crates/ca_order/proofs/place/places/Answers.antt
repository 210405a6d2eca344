use Rattle.std.proofs.Common.{◌+◌, sym, subst, arith}
use Rattle.ca_order.proofs.PlaceLemmas.{HavePlaces, one_place, all_places}
use Rattle.ca_order.proofs.place.places.Goals as goal

pub loop-n-preserved : goal.loop-n-preserved
loop-n-preserved g c =
    let net = g.N.Network.circuit c.args.net.now in
    let v1 = c.args.first.now in
    let v2 = c.args.last.now in
    subst (HavePlaces net v1 v2 (c.loop-n.n + 1)) (sym c.in_ok-push.ensures.ok)
    (one_place net v1 v2 c.loop-n.n c.loop-n.places c.loop-n.invariant c.kind.result c.get.result c.get-in-loop-n.result
    c.place_of-place.result (omega (arith, c.node_count-n-end.ensures.count)) c.kind.ensures c.get.ensures c.get-in-loop-n.ensures
    c.place_of-place.ensures)

pub returns : goal.returns
returns g c =
    let net = g.N.Network.circuit c.args.net.now in
    all_places net c.args.first.now c.args.last.now c.loop-n.n c.loop-n.places c.loop-n.invariant
    (omega (arith, c.node_count-n-end.ensures.count))
