use Rattle.std.proofs.Common.{◌≡◌, ◌≤◌, length, get_or, ◌∙◌, arith}
use Rattle.std.proofs.lemmas.List.{same_lists}
use Rattle.std.proofs.lemmas.Option.{slice_get-get_or, get_or_from_slice_get}
use Rattle.ca_block.proofs.groups.copy_devices.Goals as goal

pub returns : goal.returns
returns g c =
    let devices = (g.N.Network.circuit c.args.net.now).devices in
    let room : length c.loop-i.devices ≡ length devices = c.loop-i.auto.devices ∙ c.requires in
    let all : length devices ≤ c.loop-i.i = omega (arith, c.loop-i-test.false, c.device_count-i-end.ensures.count) in
    same_lists c.loop-i.devices devices room (λ k d lt.
    get_or_from_slice_get c.loop-i.devices k (get_or devices k d) d
    (c.loop-i.invariant k (omega (arith, lt, room, all)) ∙ slice_get-get_or devices k d (omega (arith, lt, room))))
