use Rattle.std.proofs.Common.{◌<◌}
use Rattle.ca_linked.specs.Linked.{output_nets}
use Rattle.ca_scan_tests.specs.code.Fits.{AllBefore}
use Rattle.ca_scan_tests.proofs.drafts.outputs_fit.Given as goal

abbrev pub invariant-loop-pin : goal.invariant-loop-pin
invariant-loop-pin l = AllBefore (λ net. net < l.nets) l.pin (output_nets l.body)
