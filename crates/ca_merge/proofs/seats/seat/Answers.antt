use Rattle.std.proofs.Common.{◌<◌, ◌^◌, ◌∙◌, sym, subst, arith}
use Rattle.ca_merge.proofs.SeatLemmas.{rail_is, pin_is, pin_has_seat, inner_is, seat_fits}
use Rattle.ca_merge.proofs.seats.seat.Goals as goal

pub net_seat-requires : goal.net_seat-requires
net_seat-requires c =
    pin_has_seat c.args.of.now.chip.now c.args.of.now.members.now c.args.of.now.nets.now c.args.u.0 c.args.start c.wired.ensures c.requires.hand c.cell_of-cell.result.now c.inputs.result c.outputs.result c.cell_of-cell.ensures c.inputs.ensures.count c.outputs.ensures.count c.args.node.0
    c.if-n-lt2.false c.if-n-outer.true c.requires.within c.part.result.now c.pin.result c.part.ensures c.pin.ensures

pub inner_seat-requires : goal.inner_seat-requires
inner_seat-requires c =
    subst (λ k. k < 2 ^ 32) (sym (inner_is c.args.of.now.chip.now c.args.of.now.members.now c.args.of.now.nets.now c.args.u.0 c.args.start c.wired.ensures c.requires.hand c.cell_of-cell.result.now c.inputs.result c.outputs.result c.cell_of-cell.ensures c.inputs.ensures.count c.outputs.ensures.count c.args.node.0 c.if-n-outer.false))
    (seat_fits c.args.of.now.chip.now c.args.of.now.members.now c.args.of.now.nets.now c.args.u.0 c.args.start c.wired.ensures c.requires.hand c.args.node.0 c.requires.within)

pub returns-then-n-lt2 : goal.returns-then-n-lt2
returns-then-n-lt2 c = rail_is c.args.of.now.chip.now c.args.of.now.members.now c.args.of.now.nets.now c.args.u.0 c.args.start c.wired.ensures c.requires.hand c.args.node.0 c.if-n-lt2.true

pub overflow_add-start : goal.overflow_add-start
overflow_add-start c =
    let is = inner_is c.args.of.now.chip.now c.args.of.now.members.now c.args.of.now.nets.now c.args.u.0 c.args.start c.wired.ensures c.requires.hand c.cell_of-cell.result.now c.inputs.result c.outputs.result c.cell_of-cell.ensures c.inputs.ensures.count c.outputs.ensures.count c.args.node.0 c.if-n-outer.false in
    let fits = seat_fits c.args.of.now.chip.now c.args.of.now.members.now c.args.of.now.nets.now c.args.u.0 c.args.start c.wired.ensures c.requires.hand c.args.node.0 c.requires.within in
    omega arith

pub returns-then-n-outer : goal.returns-then-n-outer
returns-then-n-outer c =
    c.net_seat.ensures
    ∙ pin_is c.args.of.now.chip.now c.args.of.now.members.now c.args.of.now.nets.now c.args.u.0 c.args.start c.wired.ensures c.requires.hand c.cell_of-cell.result.now c.inputs.result c.outputs.result c.cell_of-cell.ensures c.inputs.ensures.count c.outputs.ensures.count c.args.node.0
    c.if-n-lt2.false c.if-n-outer.true c.part.result.now c.pin.result c.part.ensures c.pin.ensures

pub returns-else-n-outer : goal.returns-else-n-outer
returns-else-n-outer c = c.inner_seat.ensures ∙ inner_is c.args.of.now.chip.now c.args.of.now.members.now c.args.of.now.nets.now c.args.u.0 c.args.start c.wired.ensures c.requires.hand c.cell_of-cell.result.now c.inputs.result c.outputs.result c.cell_of-cell.ensures c.inputs.ensures.count c.outputs.ensures.count c.args.node.0 c.if-n-outer.false
