use Rattle.ca_load.specs.Texts.{names_of}
use Rattle.ca_on_chip.proofs.AskedLemmas.{at_tests, is_traced}
use Rattle.ca_generating.proofs.tests.find_tests.Goals as goal

pub returns-in-Err-clause-cause : goal.returns-in-Err-clause-cause
returns-in-Err-clause-cause g c =
    let request = c.args.request.now in
    let names = names_of request.files in
    let files = g.S.Store.files c.args.store.now in
    let before = g.S.Store.faults c.args.store.now in
    let after = g.S.Store.faults c.load.new.store in
    let chip = c.in_ok-chip.field-0.chip in
    let traced = is_traced files names chip c.in_ok-chip.field-0.chains (c.in_ok-chip.ensures).ok (c.in_ok-chip.ensures).chains in
    at_tests files names before after chip request.budget c.generation_fault.result traced
    (c.generation_fault.ensures request.budget chip (c.in-Err.ensures).cause)
