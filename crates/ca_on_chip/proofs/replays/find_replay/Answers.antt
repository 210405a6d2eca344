use Rattle.std.proofs.Common.{rules}
use Rattle.std.specs.Prelude.{Some}
use Rattle.ca_load.specs.Texts.{names_of}
use Rattle.ca_load.specs.Files.{ReportsStoreFault}
use Rattle.ca_load.proofs.LinkLemmas.{handed_on}
use Rattle.ca_load.proofs.ReadLemmas.{reported_since}
use Rattle.ca_on_chip.specs.Replay.{IsRunCause}
use Rattle.ca_on_chip.proofs.AskedLemmas.{is_traced}
use Rattle.ca_on_chip.proofs.ReplayLemmas.{at_run}
use Rattle.ca_on_chip.proofs.replays.find_replay.Goals as goal

pub returns-in_err-ends-clause-cause : goal.returns-in_err-ends-clause-cause
returns-in_err-ends-clause-cause g c =
    let request = c.args.request.now in
    let names = names_of request.of.of.files in
    let files = g.S.Store.files c.args.store.now in
    let before = g.S.Store.faults c.args.store.now in
    let between = g.S.Store.faults c.load.new.store in
    let after = g.S.Store.faults c.run_ends.new.store in
    let fault = c.in_err-ends.field-0.0 in
    let read = c.in_ok-chip.ensures in
    let traced = is_traced files names c.in_ok-chip.field-0.chip c.in_ok-chip.field-0.chains read.ok read.chains in
    handed_on c.from_residual-in_err-ends.result fault
    (IsRunCause names request.of.of.instance.now request.of.of.defect.now request.of.first.now request.of.last.now request.order.now files before after)
    c.from_residual-in_err-ends.ensures.1
    (at_run names files (g.S.Store.files c.load.new.store) before between after c.in_ok-chip.field-0.chip request.of.of.instance.now
    request.of.of.defect.now request.of.first.now request.of.last.now request.order.now fault read.store.kept read.store.quiet traced (c.in_err-ends.ensures).cause)

pub returns-in_err-ends-clause-store : goal.returns-in_err-ends-clause-store
returns-in_err-ends-clause-store g c =
    let before = g.S.Store.faults c.args.store.now in
    let between = g.S.Store.faults c.load.new.store in
    let after = g.S.Store.faults c.run_ends.new.store in
    let fault = c.in_err-ends.field-0.0 in
    let read = c.in_ok-chip.ensures in
    record {
      quiet = search rules;
      reported = handed_on c.from_residual-in_err-ends.result fault (λ fault. ReportsStoreFault (Some fault) before after)
          c.from_residual-in_err-ends.ensures.1
          (reported_since (Some fault) before between after read.store.quiet (c.in_err-ends.ensures).store.reported);
      closed = search rules;
      kept = search rules;
    }
