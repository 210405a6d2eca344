use Rattle.std.proofs.Common.{◌<◌}
use Rattle.ca_linked.specs.Linked.{output_nets}
use Rattle.ca_scan_tests.proofs.FitLemmas.{one_more}
use Rattle.ca_scan_tests.proofs.drafts.outputs_fit.Goals as goal

pub loop-pin-preserved : goal.loop-pin-preserved
loop-pin-preserved c =
    one_more (λ net. net < c.args.nets) c.loop-pin.pin (output_nets c.args.body.now) c.output.result c.loop-pin.invariant c.output.ensures c.if-nets-output.false
