use Rattle.std.proofs.Common.{arith, ◌∙◌}
use Rattle.ca_search.proofs.TrailLemmas.{numbers_have_room, left_to, left_trail, leaf_within_to, bits_stay}
use Rattle.ca_search.proofs.trail.Trail.leave.Goals as goal

pub push_reserved-requires : goal.push_reserved-requires
push_reserved-requires g c =
    let now = c.args.self.now in
    let room = numbers_have_room _ _ _ _ _ c.requires.stands.stands in
    omega (arith, room, now.numbers.ok, now.numbers_reserved)

pub returns-clause-left : goal.returns-clause-left
returns-clause-left g c =
    let old = g.J.Judge.judged c.args.judge.now in
    let new = g.J.Judge.judged c.turn.new.judge in
    left_trail c.turn.result new c.turn.new.self
    (left_to c.turn.result old new _ _ _ _ _ _ _ _ _ c.turn.ensures.aim c.requires.stands.stands c.requires.leaf
    c.turn.ensures.turned c.turn.ensures.fewer (c.turn.ensures.numbers ∙ c.push_reserved.ensures.items)
    c.packed.ensures c.turn.ensures.branches c.turn.ensures.room.budget)
    (c.turn.ensures.room.bits ∙ bits_stay old new _ c.turn.ensures.aim c.requires.stands.bits)

pub returns-clause-within : goal.returns-clause-within
returns-clause-within g c =
    let within = leaf_within_to _ _ _ _ _ _ _ c.requires.stands.stands
    (c.turn.ensures.numbers ∙ c.push_reserved.ensures.items) c.packed.ensures in
    omega (arith, within, c.turn.ensures.room.budget)
