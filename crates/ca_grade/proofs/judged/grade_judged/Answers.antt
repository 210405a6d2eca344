use Rattle.std.proofs.Common.{arith, length, refl}
use Rattle.ca_grade.proofs.GradeLemmas.{at_first, graded}
use Rattle.ca_grade.proofs.judged.grade_judged.Goals as goal

pub credit_judged-wrong-requires-clause-before : goal.credit_judged-wrong-requires-clause-before
credit_judged-wrong-requires-clause-before g c =
    let task = g.B.Simulator.task c.args.bench.now in
    at_first task c.args.pairs.now (length task.defects) c.in_ok-credits.credits (omega arith) c.in_ok-credits.ensures

pub returns-clause-graded : goal.returns-clause-graded
returns-clause-graded g c =
    graded (g.B.Simulator.task c.args.bench.now) c.args.pairs.now c.credit_judged-wrong.new.credits c.in_ok-grades-in-None.grades
    (c.in-None.ensures.after refl) c.in_ok-grades-in-None.ensures
