use Rattle.ca_load.specs.Texts.{names_of}
use Rattle.ca_load.proofs.LinkLemmas.{handed_on}
use Rattle.ca_diagnosing.specs.Diagnosing.{IsDiagnosedCause}
use Rattle.ca_diagnosing.proofs.DiagnoseLemmas.{at_logged}
use Rattle.ca_diagnosing.proofs.logged.load_logged.Goals as goal

pub returns-in_err-log-clause-cause : goal.returns-in_err-log-clause-cause
returns-in_err-log-clause-cause g c =
    let request = c.args.request.now in
    let names = names_of request.files in
    let files = g.S.Store.files c.args.store.now in
    let before = g.S.Store.faults c.args.store.now in
    let between = g.S.Store.faults c.load_patterns.new.store in
    let after = g.S.Store.faults c.judged_log.new.store in
    let fault = c.in_err-log.field-0.0 in
    let found = c.in_ok-chip.field-0 in
    let read = c.in_ok-chip.ensures in
    handed_on c.from_residual-in_err-log.result fault
    (IsDiagnosedCause names request.stil.now request.log.now files before after)
    c.from_residual-in_err-log.ensures.1
    (at_logged files (g.S.Store.files c.load_patterns.new.store) names request.stil.now request.log.now before between after found.chip
    found.chains found.file fault read.store.kept read.store.quiet read.chip read.chains read.patterns read.few (c.in_err-log.ensures).cause)
