use Rattle.ca_load.specs.Texts.{names_of}
use Rattle.ca_load.proofs.LinkLemmas.{handed_on}
use Rattle.ca_on_chip.proofs.AskedLemmas.{is_traced}
use Rattle.ca_bridging.specs.Bridging.{IsBridgesCause}
use Rattle.ca_bridging.proofs.CauseLemmas.{at_bridges}
use Rattle.ca_bridging.proofs.bridging.find_bridges.Goals as goal

pub returns-in_err-made-clause-cause : goal.returns-in_err-made-clause-cause
returns-in_err-made-clause-cause g c =
    let request = c.args.request.now in
    let names = names_of request.files in
    let instance = request.instance.now in
    let files = g.S.Store.files c.args.store.now in
    let before = g.S.Store.faults c.args.store.now in
    let after = g.S.Store.faults c.load.new.store in
    let fault = c.in_err-made.field-0.0 in
    let traced = is_traced files names c.in_ok-chip.field-0.chip c.in_ok-chip.field-0.chains (c.in_ok-chip.ensures).ok (c.in_ok-chip.ensures).chains in
    handed_on c.from_residual-in_err-made.result fault (IsBridgesCause names instance files before after)
    c.from_residual-in_err-made.ensures.1
    (at_bridges files names before after c.in_ok-chip.field-0.chip instance fault
    traced (c.in_err-made.ensures).cause)
