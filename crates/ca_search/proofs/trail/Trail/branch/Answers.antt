use Rattle.std.proofs.Common.{arith}
use Rattle.ca_search.proofs.StepLemmas.{decided_within, aim_of}
use Rattle.ca_search.proofs.TrailLemmas.{numbers_have_room, branched_to, bits_stay}
use Rattle.ca_search.proofs.trail.Trail.branch.Goals as goal

pub packed-requires : goal.packed-requires
packed-requires g c =
    let judged = g.J.Judge.judged c.args.judge.now in
    let within = decided_within judged.chip judged.aim judged.pair c.args.bit c.requires.may in
    omega (arith, within, c.requires.stands.bits, c.args.self.now.few)

pub push_reserved-requires : goal.push_reserved-requires
push_reserved-requires g c =
    let now = c.args.self.now in
    let room = numbers_have_room _ _ _ _ _ c.requires.stands.stands in
    omega (arith, room, now.numbers.ok, now.numbers_reserved)

pub set-requires : goal.set-requires
set-requires g c =
    let judged = g.J.Judge.judged c.args.judge.now in
    decided_within judged.chip judged.aim judged.pair c.args.bit c.requires.may

pub returns-clause-stands : goal.returns-clause-stands
returns-clause-stands g c = record {
  stands = branched_to (g.J.Judge.judged c.args.judge.now) (g.J.Judge.judged c.set.new.self) _ _ _ _ _ _ _ _ _
      c.requires.stands.stands c.requires.may c.requires.unspent c.set.ensures c.push_reserved.ensures.items
      c.packed.ensures c.push_reserved-2.ensures.items;
  bits = bits_stay (g.J.Judge.judged c.args.judge.now) (g.J.Judge.judged c.set.new.self) _
      (aim_of (g.J.Judge.judged c.args.judge.now) (g.J.Judge.judged c.set.new.self) _ c.set.ensures)
      c.requires.stands.bits;
}
