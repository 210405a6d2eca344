use Rattle.ca_load.specs.Texts.{names_of}
use Rattle.ca_load.proofs.LinkLemmas.{handed_on}
use Rattle.ca_verifying.specs.Verifying.{IsVerifiedCause}
use Rattle.ca_verifying.proofs.VerifyLemmas.{at_claimed}
use Rattle.ca_verifying.proofs.claimed.load_claimed.Goals as goal

pub returns-in_err-certificate-clause-cause : goal.returns-in_err-certificate-clause-cause
returns-in_err-certificate-clause-cause g c =
    let names = names_of c.args.names.now in
    let files = g.S.Store.files c.args.store.now in
    let before = g.S.Store.faults c.args.store.now in
    let between = g.S.Store.faults c.load_patterns.new.store in
    let after = g.S.Store.faults c.judged_certificate.new.store in
    let fault = c.in_err-certificate.field-0.0 in
    let found = c.in_ok-chip.field-0 in
    let read = c.in_ok-chip.ensures in
    handed_on c.from_residual-in_err-certificate.result fault
    (IsVerifiedCause names c.args.stil.now c.args.cert.now files before after)
    c.from_residual-in_err-certificate.ensures.1
    (at_claimed files (g.S.Store.files c.load_patterns.new.store) names c.args.stil.now c.args.cert.now before between after found.chip
    found.chains found.file fault read.store.kept read.store.quiet read.chip read.chains read.patterns read.few (c.in_err-certificate.ensures).cause)
