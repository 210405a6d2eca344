use Rattle.std.proofs.Common.{ap, arith, length}
use Rattle.ca_sweep.proofs.LaneLemmas.{small_powers}
use Rattle.ca_sweep.proofs.lane_goods.settle_at.Goals as goal

pub given-requires-clause-room : goal.given-requires-clause-room
given-requires-clause-room c =
    let few = c.linked.ensures.nets.few_pins c.args.w c.requires.placed.known in
    let count = (c.linked.ensures.nets.input_pins c.args.w c.requires.placed.known).counted in
    let same = ap length c.input_pins.ensures.same in
    let small = small_powers (length c.input_pins.result.now) (omega arith) in
    let is = c.find_masks-count.ensures.count in
    let room = c.find_masks-count.ensures.room in
    let len = ap length c.deref-in-loop-output.ensures.value in
    omega arith
