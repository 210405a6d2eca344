use Rattle.std.proofs.Common.{◌<◌, subst}
use Rattle.ca_linked.specs.declared.parts.PortBit.{PortBit}
use Rattle.ca_linked.specs.Linked.{net_count}
use Rattle.ca_scan_tests.proofs.FitLemmas.{one_more}
use Rattle.ca_scan_tests.proofs.drafts.ports_fit.Goals as goal

pub loop-p-preserved : goal.loop-p-preserved
loop-p-preserved c =
    let draft = c.args.draft.now in
    one_more (λ (port : PortBit). port.net < net_count draft) c.loop-p.p draft.ports c.port.result.now c.loop-p.invariant c.port.ensures
    (subst (λ count. c.port.result.now.net < count) c.nets.ensures c.if-nets-port.false)
