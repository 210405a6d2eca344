use Rattle.ca_fault_place.proofs.NetLemmas.{ok_then, reported_double, reported_net}
use Rattle.ca_fault_place.proofs.places.place_of.Goals as goal

pub returns-in-DoubleDriven : goal.returns-in-DoubleDriven
returns-in-DoubleDriven c =
    let on = c.in-DoubleDriven in
    ok_then c.driven_net.result _ _ (λ text. reported_double c.args.netlist.now c.args.fault.now on.net text on.first on.second on.is) c.driven_net.ensures

pub returns-in-Undriven : goal.returns-in-Undriven
returns-in-Undriven c =
    let on = c.in-Undriven in
    ok_then c.one_net.result _ _ (λ text. reported_net c.args.netlist.now c.args.fault.now on.net text on.is) c.one_net.ensures
