use Rattle.ca_certify.proofs.CodeLemmas.{aimed_finds_nothing, aimed_exhausted, aimed_spent}
use Rattle.ca_certify.proofs.searched.searched_claim.Goals as goal

pub unreachable-requires : goal.unreachable-requires
unreachable-requires g c =
    aimed_finds_nothing (g.J.Judge.judged c.args.judge.now) (g.J.Judge.judged c.find.new.judge) c.requires c.in-Found.ensures.aim
    c.find.new.self.budget c.find.new.self.code c.in-Found.ensures.within c.in-Found.ensures.outcome

pub returns-in_ok-code-in-Exhausted-clause-claim :
    goal.returns-in_ok-code-in-Exhausted-clause-claim
returns-in_ok-code-in-Exhausted-clause-claim g c =
    aimed_exhausted (g.J.Judge.judged c.args.judge.now) (g.J.Judge.judged c.find.new.judge) c.requires c.in-Exhausted.ensures.aim
    c.find.new.self.budget c.args.search.now.budget c.find.new.self.code _ c.in-Exhausted.ensures.budget c.in_ok-code-in-Exhausted.ensures
    c.in-Exhausted.ensures.outcome

pub returns-in_ok-code-in-Spent-clause-claim : goal.returns-in_ok-code-in-Spent-clause-claim
returns-in_ok-code-in-Spent-clause-claim g c =
    aimed_spent (g.J.Judge.judged c.args.judge.now) (g.J.Judge.judged c.find.new.judge) c.requires c.in-Spent.ensures.aim
    c.find.new.self.budget c.args.search.now.budget c.find.new.self.code _ c.in-Spent.ensures.budget c.in_ok-code-in-Spent.ensures
    c.in-Spent.ensures.outcome
