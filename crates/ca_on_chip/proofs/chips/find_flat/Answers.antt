use Rattle.ca_load.specs.Texts.{names_of}
use Rattle.ca_load.proofs.LinkLemmas.{handed_on}
use Rattle.ca_on_chip.specs.OnChip.{IsFlatCause}
use Rattle.ca_on_chip.proofs.AskedLemmas.{at_flat, is_traced}
use Rattle.ca_on_chip.proofs.chips.find_flat.Goals as goal

pub returns-in_err-net-clause-cause : goal.returns-in_err-net-clause-cause
returns-in_err-net-clause-cause g c =
    let request = c.args.request.now in
    let names = names_of request.files in
    let files = g.S.Store.files c.args.store.now in
    let before = g.S.Store.faults c.args.store.now in
    let after = g.S.Store.faults c.load.new.store in
    let fault = c.in_err-net.field-0.0 in
    let traced = is_traced files names c.in_ok-chip.field-0.chip c.in_ok-chip.field-0.chains (c.in_ok-chip.ensures).ok (c.in_ok-chip.ensures).chains in
    handed_on c.from_residual-in_err-net.result fault
    (IsFlatCause names request.instance.now request.defect.now files before after) c.from_residual-in_err-net.ensures.1
    (at_flat files names before after c.in_ok-chip.field-0.chip request.instance.now request.defect.now fault
    traced (c.in_err-net.ensures).cause)
