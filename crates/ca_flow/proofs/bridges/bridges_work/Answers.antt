use Rattle.std.proofs.Common.{◌≢◌, ℕ, List}
use Rattle.ca_load.specs.Texts.{names_of}
use Rattle.ca_load.proofs.LinkLemmas.{handed_on}
use Rattle.ca_words.specs.Command.{IsSpelledBridges}
use Rattle.ca_fault.specs.declared.fault.Fault.TheVariants.{SinkFailed}
use Rattle.ca_flow.specs.Fault.{IsWorkCause}
use Rattle.ca_flow.proofs.BridgeLemmas.{bridges_cause, no_bridges_sink}
use Rattle.ca_flow.proofs.bridges.bridges_work.Goals as goal

pub returns-in_err-chip-clause-cause : goal.returns-in_err-chip-clause-cause
returns-in_err-chip-clause-cause g c =
    let request = c.args.request.now in
    let files = g.S.Store.files c.args.store.now in
    let before = g.S.Store.faults c.args.store.now in
    let after = g.S.Store.faults c.find_bridges.new.store in
    let fault = c.in_err-chip.field-0.0 in
    handed_on c.from_residual.result fault
    (λ fault. (words : List (List ℕ)) → IsSpelledBridges words request → IsWorkCause words files before after fault)
    c.from_residual.ensures.1
    (λ words spelled. bridges_cause words request files before after fault spelled (c.in_err-chip.ensures).cause)

pub returns-in_err-chip-clause-no_sink : goal.returns-in_err-chip-clause-no_sink
returns-in_err-chip-clause-no_sink g c =
    let request = c.args.request.now in
    let fault = c.in_err-chip.field-0.0 in
    handed_on c.from_residual.result fault (λ fault. fault ≢ SinkFailed)
    c.from_residual.ensures.1
    (no_bridges_sink (names_of request.files) request.instance.now (g.S.Store.files c.args.store.now)
    (g.S.Store.faults c.args.store.now) (g.S.Store.faults c.find_bridges.new.store) fault (c.in_err-chip.ensures).cause)
