use Rattle.std.proofs.Common.{◌≡◌, ◌∙◌, ◌<◌, sym, ap, arith}
use Rattle.std.specs.Prelude.{slice_index}
use Rattle.ca_linked.specs.Linked.{net_count}
use Rattle.ca_flatten.proofs.ScanLemmas.{inverted_at, inverted_get, inverted_on_net, inverted_core_net}
use Rattle.ca_flatten.proofs.spots.inverted_net.Goals as goal

pub get-requires : goal.get-requires
get-requires c =
    let v = inverted_at c.args.chip.now c.args.u.0 c.requires.inverting in
    let same : c.pin_net.result.0 ≡ v.net = inverted_get c.args.chip.now c.args.u.0 v c.pin_net.result.0 c.pin_net.ensures in
    let within : v.net < net_count c.args.chip.now = inverted_on_net c.args.chip.now c.args.u.0 v c.wired.ensures in
    let room = c.requires.nets.room in omega arith

pub returns : goal.returns
returns c =
    let v = inverted_at c.args.chip.now c.args.u.0 c.requires.inverting in
    let same : c.pin_net.result.0 ≡ v.net = inverted_get c.args.chip.now c.args.u.0 v c.pin_net.result.0 c.pin_net.ensures in
    c.get.ensures
    ∙ ap (slice_index c.args.nets.now.numbers) same
    ∙ c.requires.nets.each v.net (inverted_on_net c.args.chip.now c.args.u.0 v c.wired.ensures)
    ∙ sym (inverted_core_net c.args.chip.now c.args.u.0 v)
