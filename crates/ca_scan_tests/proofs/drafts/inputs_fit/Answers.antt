use Rattle.std.proofs.Common.{◌<◌}
use Rattle.ca_linked.specs.Linked.{input_nets}
use Rattle.ca_scan_tests.proofs.FitLemmas.{one_more}
use Rattle.ca_scan_tests.proofs.drafts.inputs_fit.Goals as goal

pub loop-pin-preserved : goal.loop-pin-preserved
loop-pin-preserved c =
    one_more (λ net. net < c.args.nets) c.loop-pin.pin (input_nets c.args.body.now) c.input.result c.loop-pin.invariant c.input.ensures c.if-nets-input.false
