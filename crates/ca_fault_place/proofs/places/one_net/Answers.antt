use Rattle.std.proofs.Common.{subst}
use Rattle.ca_fault_place.specs.Place.{net_text}
use Rattle.ca_fault_place.specs.code.Touched.{IsFoundFor}
use Rattle.ca_fault_place.proofs.NetLemmas.{named_net, ok_then, unnamed_net}
use Rattle.ca_fault_place.proofs.places.one_net.Goals as goal

pub returns-in-Some : goal.returns-in-Some
returns-in-Some c =
    let raw = c.args.netlist.now in
    let net = c.args.net.0 in
    let found = subst (IsFoundFor raw net) c.in-Some.is (c.in_ok-wire.ensures {u = tt}) in
    ok_then c.net_text.result _ _ (λ text is. named_net raw net net_text text c.in-Some.wire found is) c.net_text.ensures

pub returns-in-None : goal.returns-in-None
returns-in-None c =
    let raw = c.args.netlist.now in
    let net = c.args.net.0 in
    unnamed_net raw net net_text c.new.result (subst (IsFoundFor raw net) c.in-None.is (c.in_ok-wire.ensures {u = tt})) c.new.ensures
