use Rattle.std.proofs.Common.{◌∙◌, arith}
use Rattle.ca_credit.proofs.RoundLemmas.{whole_part, leaves_part}
use Rattle.ca_credit.proofs.round.Round.leave.Goals as goal

pub returns-then-end-len-clause-left : goal.returns-then-end-len-clause-left
returns-then-end-len-clause-left c =
    whole_part c.args.self.now.verdicts.items c.args.self.now.open_places c.args.self.now.left c.take_over.new.self c.remove_before.new.set c.args.start
    c.args.end c.requires.stands c.take_over.ensures.same c.remove_before.ensures.rest (let at = c.if-end-len.true in let is = c.len.ensures in omega arith)

pub returns-then-end-len-clause-stands : goal.returns-then-end-len-clause-stands
returns-then-end-len-clause-stands c =
    leaves_part c.args.self.now.verdicts.items c.args.self.now.open_places c.args.self.now.left c.remove_before.new.set c.args.start c.args.end
    c.requires.stands
    (whole_part c.args.self.now.verdicts.items c.args.self.now.open_places c.args.self.now.left c.take_over.new.self c.remove_before.new.set c.args.start
    c.args.end c.requires.stands c.take_over.ensures.same c.remove_before.ensures.rest (let at = c.if-end-len.true in let is = c.len.ensures in omega arith))
    (c.remove_before.ensures.room ∙ c.take_over.ensures.room)

pub returns-clause-left : goal.returns-clause-left
returns-clause-left c = c.insert_between.ensures.part

pub returns-clause-stands : goal.returns-clause-stands
returns-clause-stands c =
    leaves_part c.args.self.now.verdicts.items c.args.self.now.open_places c.args.self.now.left c.insert_between.new.into c.args.start c.args.end
    c.requires.stands c.insert_between.ensures.part (c.insert_between.ensures.room ∙ c.clear.ensures.room)
