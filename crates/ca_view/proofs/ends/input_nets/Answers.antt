use Rattle.ca_linked.specs.Linked.{inputs_of}
use Rattle.ca_view.specs.Core.{core_of}
use Rattle.ca_view.proofs.EndLemmas.{input_within, input_is, next_net, core_length}
use Rattle.ca_view.proofs.ends.input_nets.Goals as goal

pub get-requires : goal.get-requires
get-requires c = input_within c.args.chip.now c.wired.ensures c.args.numbers.now c.requires c.loop-i.i c.input.result.0 c.input.ensures

pub loop-i-preserved : goal.loop-i-preserved
loop-i-preserved c =
    next_net (core_of c.args.chip.now).inputs c.loop-i.nets.items c.push.new.self.items c.loop-i.i c.get.result
    (core_length c.args.chip.now (inputs_of c.args.chip.now) c.loop-i.i c.input.result.0 c.input.ensures) c.loop-i.invariant
    (input_is c.args.chip.now c.wired.ensures c.args.numbers.now c.requires c.loop-i.i c.input.result.0 c.get.result c.input.ensures c.get.ensures)
    c.in_ok-push.ensures.items
