use Rattle.ca_load.specs.Texts.{Inputs}
use Rattle.ca_load.proofs.LinkLemmas.{traced_err, traced_ok}
use Rattle.ca_load.proofs.linking.loaded_from.Goals as goal

pub returns-clause-ok : goal.returns-clause-ok
returns-clause-ok c =
    let inputs : Inputs = record { library = c.args.library; netlist = c.args.netlist.now; rows = c.args.scan.now } in
    traced_ok inputs c.in_ok-chip.chip c.traced.result (c.in_ok-chip.ensures).ok c.traced.ensures.ok

pub returns-clause-cause : goal.returns-clause-cause
returns-clause-cause c =
    let inputs : Inputs = record { library = c.args.library; netlist = c.args.netlist.now; rows = c.args.scan.now } in
    traced_err inputs c.in_ok-chip.chip c.traced.result (c.in_ok-chip.ensures).ok c.traced.ensures.cause
