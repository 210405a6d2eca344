use Rattle.ca_linked.specs.Linked.{outputs_of}
use Rattle.ca_view.specs.Core.{core_of}
use Rattle.ca_view.proofs.EndLemmas.{output_within, output_is, next_net, core_length}
use Rattle.ca_view.proofs.ends.output_nets.Goals as goal

pub get-requires : goal.get-requires
get-requires c = output_within c.args.chip.now c.wired.ensures c.args.numbers.now c.requires c.loop-o.o c.output.result.0 c.output.ensures

pub loop-o-preserved : goal.loop-o-preserved
loop-o-preserved c =
    next_net (core_of c.args.chip.now).outputs c.loop-o.nets.items c.push.new.self.items c.loop-o.o c.get.result
    (core_length c.args.chip.now (outputs_of c.args.chip.now) c.loop-o.o c.output.result.0 c.output.ensures) c.loop-o.invariant
    (output_is c.args.chip.now c.wired.ensures c.args.numbers.now c.requires c.loop-o.o c.output.result.0 c.get.result c.output.ensures c.get.ensures)
    c.in_ok-push.ensures.items
