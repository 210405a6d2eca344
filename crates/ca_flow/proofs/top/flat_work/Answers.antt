use Rattle.std.proofs.Common.{◌≢◌}
use Rattle.ca_load.specs.Texts.{names_of}
use Rattle.ca_load.proofs.LinkLemmas.{handed_on}
use Rattle.ca_fault.specs.declared.fault.Fault.TheVariants.{SinkFailed}
use Rattle.ca_flow.proofs.CauseLemmas.{no_flat_sink}
use Rattle.ca_flow.proofs.top.flat_work.Goals as goal

pub returns-in_err-chip-clause-no_sink : goal.returns-in_err-chip-clause-no_sink
returns-in_err-chip-clause-no_sink g c =
    let request = c.args.request.now in
    let fault = c.in_err-chip.field-0.0 in
    handed_on c.from_residual.result fault (λ fault. fault ≢ SinkFailed)
    c.from_residual.ensures.1
    (no_flat_sink (names_of request.of.files) request.of.instance.now request.of.defect.now
    (g.S.Store.files c.args.store.now) (g.S.Store.faults c.args.store.now) (g.S.Store.faults c.find_flat.new.store) fault
    (c.in_err-chip.ensures).cause)
