use Rattle.std.proofs.Common.{◌∙◌, ◌<◌, arith}
use Rattle.ca_linked.specs.Linked.{net_count}
use Rattle.ca_flatten.proofs.GateLemmas.{pin_on_net, pin_read, pin_within}
use Rattle.ca_flatten.proofs.spots.gate_net.Goals as goal

pub pin_net-requires : goal.pin_net-requires
pin_net-requires c = pin_within c.args.chip.now c.wired.ensures c.args.u.0 c.requires.library c.args.pin c.requires.within

pub get-requires : goal.get-requires
get-requires c =
    let within : c.pin_net.result.0 < net_count c.args.chip.now =
    pin_on_net c.args.chip.now c.wired.ensures c.args.u.0 c.requires.library c.args.pin c.pin_net.result.0 c.pin_net.ensures in
    let room = c.requires.nets.room in omega arith

pub returns : goal.returns
returns c =
    c.get.ensures
    ∙ c.requires.nets.each c.pin_net.result.0
    (pin_on_net c.args.chip.now c.wired.ensures c.args.u.0 c.requires.library c.args.pin c.pin_net.result.0 c.pin_net.ensures)
    ∙ pin_read c.args.chip.now c.wired.ensures c.args.u.0 c.requires.library c.args.pin c.pin_net.result.0 c.pin_net.ensures
