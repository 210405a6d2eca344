use Rattle.std.proofs.Common.{rules}
use Rattle.std.specs.Prelude.{Some}
use Rattle.ca_load.specs.Texts.{names_of}
use Rattle.ca_load.specs.Files.{ReportsStoreFault}
use Rattle.ca_load.proofs.LinkLemmas.{handed_on}
use Rattle.ca_load.proofs.ReadLemmas.{reported_since}
use Rattle.ca_patterns.specs.Patterns.{IsLoadedCause}
use Rattle.ca_patterns.proofs.PatternLemmas.{at_loaded}
use Rattle.ca_patterns.proofs.loading.load_patterns.Goals as goal

pub returns-in_err-file-clause-cause : goal.returns-in_err-file-clause-cause
returns-in_err-file-clause-cause g c =
    let names = names_of c.args.names.now in
    let files = g.S.Store.files c.args.store.now in
    let before = g.S.Store.faults c.args.store.now in
    let between = g.S.Store.faults c.load.new.store in
    let after = g.S.Store.faults c.open_patterns.new.store in
    let fault = c.in_err-file.field-0.0 in
    let read = c.in_ok-chip.ensures in
    handed_on c.from_residual-in_err-file.result fault
    (IsLoadedCause names c.args.stil.now files before after)
    c.from_residual-in_err-file.ensures.1
    (at_loaded files (g.S.Store.files c.load.new.store) names c.args.stil.now before between after c.in_ok-chip.field-0.chip
    c.in_ok-chip.field-0.chains fault read.store.kept read.store.quiet read.ok read.chains (c.in_err-file.ensures).cause)

pub returns-in_err-file-clause-store : goal.returns-in_err-file-clause-store
returns-in_err-file-clause-store g c =
    let before = g.S.Store.faults c.args.store.now in
    let between = g.S.Store.faults c.load.new.store in
    let after = g.S.Store.faults c.open_patterns.new.store in
    let fault = c.in_err-file.field-0.0 in
    let read = c.in_ok-chip.ensures in
    record {
      quiet = search rules;
      reported = handed_on c.from_residual-in_err-file.result fault (λ fault. ReportsStoreFault (Some fault) before after)
          c.from_residual-in_err-file.ensures.1
          (reported_since (Some fault) before between after read.store.quiet (c.in_err-file.ensures).store.reported);
      closed = search rules;
      kept = search rules;
    }
