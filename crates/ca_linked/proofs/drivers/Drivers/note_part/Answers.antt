use Rattle.std.proofs.Common.{◌≡◌, ◌+◌, ◌<◌, sym, subst, arith, length}
use Rattle.std.specs.List.{All}
use Rattle.ca_linked.specs.Linked.{Part, FromPin, net_count, output_nets}
use Rattle.ca_linked.specs.code.Drivers.{AreNoted, IsSeen}
use Rattle.ca_linked.proofs.PartLemmas.{of_all}
use Rattle.ca_linked.proofs.DriverLemmas.{pin_seen, part_seen, of_get}
use Rattle.ca_linked.proofs.drivers.Drivers.note_part.Goals as goal

pub loop-pin-preserved : goal.loop-pin-preserved
loop-pin-preserved c =
    let chip = c.args.draft.now in
    let on_nets = of_all (λ (p : Part). All (λ net. net < net_count chip) (output_nets p.body)) chip.parts c.args.u c.part.result.now
    c.requires.drafted.outputs_on_nets c.part.ensures in
    subst (AreNoted chip (IsSeen (FromPin c.args.u (c.loop-pin.pin + 1)))) (sym c.note.ensures)
    (pin_seen chip c.loop-pin.self c.args.u c.loop-pin.pin c.output.result c.part.result.now c.part.ensures c.output.ensures
    (of_get (λ net. net < net_count chip) (output_nets c.part.result.now.body) c.loop-pin.pin c.output.result on_nets c.output.ensures) c.loop-pin.invariant)

pub returns : goal.returns
returns c =
    let chip = c.args.draft.now in
    let count = c.output_count-pin-end.ensures in
    let past = c.loop-pin-test.false in
    let most = c.loop-pin.auto.pin-end in
    let all : c.loop-pin.pin ≡ length (output_nets c.part.result.now.body) = omega (arith, count, past, most) in
    part_seen chip c.loop-pin.self c.args.u c.part.result.now c.part.ensures
    (subst (λ k. AreNoted chip (IsSeen (FromPin c.args.u k)) c.loop-pin.self) all c.loop-pin.invariant)
