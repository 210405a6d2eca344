use Rattle.std.proofs.Common.{◌≢◌}
use Rattle.std.specs.Prelude.{ℕ, List}
use Rattle.ca_load.specs.Texts.{names_of}
use Rattle.ca_load.proofs.LinkLemmas.{handed_on}
use Rattle.ca_fault.specs.declared.fault.Fault.TheVariants.{SinkFailed}
use Rattle.ca_words.specs.Command.{IsSpelledReplay}
use Rattle.ca_flow.specs.Fault.{IsWorkCause}
use Rattle.ca_flow.proofs.CauseLemmas.{replay_cause, no_run_sink}
use Rattle.ca_flow.proofs.top.replay_work.Goals as goal

pub returns-in_err-chip-clause-cause : goal.returns-in_err-chip-clause-cause
returns-in_err-chip-clause-cause g c =
    let files = g.S.Store.files c.args.store.now in
    let before = g.S.Store.faults c.args.store.now in
    let after = g.S.Store.faults c.find_replay.new.store in
    let request = c.args.request.now in
    let fault = c.in_err-chip.field-0.0 in
    handed_on c.from_residual.result fault
    (λ fault. (words : List (List ℕ)) → IsSpelledReplay words request → IsWorkCause words files before after fault)
    c.from_residual.ensures.1
    (λ words spelled. replay_cause words request files before after fault spelled (c.in_err-chip.ensures).cause)

pub returns-in_err-chip-clause-no_sink : goal.returns-in_err-chip-clause-no_sink
returns-in_err-chip-clause-no_sink g c =
    let request = c.args.request.now in
    let fault = c.in_err-chip.field-0.0 in
    handed_on c.from_residual.result fault (λ fault. fault ≢ SinkFailed) c.from_residual.ensures.1
    (no_run_sink (names_of request.of.of.files) request.of.of.instance.now request.of.of.defect.now request.of.first.now
    request.of.last.now request.order.now (g.S.Store.files c.args.store.now)
    (g.S.Store.faults c.args.store.now) (g.S.Store.faults c.find_replay.new.store) fault (c.in_err-chip.ensures).cause)
