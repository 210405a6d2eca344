use Rattle.std.proofs.Common.{◌<◌}
use Rattle.ca_linked.specs.declared.parts.PortBit.{PortBit}
use Rattle.ca_linked.specs.Linked.{net_count}
use Rattle.ca_scan_tests.specs.code.Fits.{AllBefore}
use Rattle.ca_scan_tests.proofs.drafts.ports_fit.Given as goal

abbrev pub invariant-loop-p : goal.invariant-loop-p
invariant-loop-p l = AllBefore (λ (port : PortBit). port.net < net_count l.draft) l.p l.draft.ports
