use Rattle.std.proofs.Common.{◌≡◌, ◌+◌, ◌<◌, sym, ◌∙◌, subst, arith, length}
use Rattle.std.specs.List.{All}
use Rattle.ca_linked.specs.Linked.{Part, Body, net_count, input_nets}
use Rattle.ca_linked.specs.code.Reading.{HaveReaders, ReadsSoFar}
use Rattle.ca_linked.proofs.PartLemmas.{of_all}
use Rattle.ca_linked.proofs.DriverLemmas.{of_get}
use Rattle.ca_linked.proofs.ReaderLemmas.{pin_added, pins_begin, pins_seen, scan_passed}
use Rattle.ca_linked.proofs.readers.Readers.add_part.Goals as goal

pub add-requires : goal.add-requires
add-requires c =
    let chip = c.args.draft.now in
    let part = c.part.result.now in
    let on_nets = of_all (λ (p : Part). All (λ net. net < net_count chip) (input_nets p.body)) chip.parts c.args.u part c.requires.drafted.inputs_on_nets c.part.ensures in
    let within = of_get (λ net. net < net_count chip) c.in-Gate.inputs c.loop-pin.pin c.get.result
    (subst (λ (b : Body). All (λ net. net < net_count chip) (input_nets b)) c.in-Gate.is on_nets) c.get.ensures in
    subst (λ count. c.get.result < count) (sym c.loop-pin.invariant.room) within

pub loop-pin-preserved : goal.loop-pin-preserved
loop-pin-preserved c =
    let chip = c.args.draft.now in
    let part = c.part.result.now in
    let on_nets = of_all (λ (p : Part). All (λ net. net < net_count chip) (input_nets p.body)) chip.parts c.args.u part c.requires.drafted.inputs_on_nets c.part.ensures in
    let within = of_get (λ net. net < net_count chip) c.in-Gate.inputs c.loop-pin.pin c.get.result
    (subst (λ (b : Body). All (λ net. net < net_count chip) (input_nets b)) c.in-Gate.is on_nets) c.get.ensures in
    subst (HaveReaders chip (ReadsSoFar chip c.args.u c.in-Gate.inputs (c.loop-pin.pin + 1))) (sym (c.in_ok-add.ensures {u = tt}))
    (pin_added chip c.args.u c.in-Gate.inputs c.loop-pin.pin c.get.result c.get.ensures c.loop-pin.self c.loop-pin.invariant within)

pub loop-pin-init : goal.loop-pin-init
loop-pin-init c = pins_begin c.args.draft.now c.args.u c.part.result.now c.part.ensures c.args.self.now c.in-Gate.inputs c.requires.so_far

pub returns-after-loop-pin : goal.returns-after-loop-pin
returns-after-loop-pin c =
    let chip = c.args.draft.now in
    let count = c.len-pin-end.ensures in
    let past = c.loop-pin-test.false in
    let most = c.loop-pin.auto.pin-end in
    let all : c.loop-pin.pin ≡ length c.in-Gate.inputs = omega (arith, count, past, most) in
    pins_seen chip c.args.u c.part.result.now c.part.ensures c.loop-pin.self c.in-Gate.cell c.in-Gate.inputs c.in-Gate.outputs c.in-Gate.is
    (subst (λ k. HaveReaders chip (ReadsSoFar chip c.args.u c.in-Gate.inputs k) c.loop-pin.self) all c.loop-pin.invariant)

pub returns-in_default : goal.returns-in_default
returns-in_default c =
    scan_passed c.args.draft.now c.args.u c.part.result.now c.part.ensures c.args.self.now
    (λ cell inputs outputs e. let is = c.in_default.is in let clash = sym e ∙ is in cc) c.requires.so_far
