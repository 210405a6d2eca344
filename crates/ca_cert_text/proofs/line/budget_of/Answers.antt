use Rattle.std.proofs.Common.{arith, ap, length}
use Rattle.ca_cert_text.proofs.WordLemmas.{same_number, budget_digits}
use Rattle.ca_cert_text.proofs.line.budget_of.Goals as goal

pub returns-then-budget-gt-MOST_BUDGET : goal.returns-then-budget-gt-MOST_BUDGET
returns-then-budget-gt-MOST_BUDGET c = λ budget few is.
    let great = c.if-budget-gt-MOST_BUDGET.true in
    let read = c.in-Some.ensures in
    let digits = budget_digits c.args.line.now c.split_at.result.1.now _ budget c.split_at.ensures.back
    (ap length c.as_slice-head.ensures) is in
    let same = same_number c.in-Some.budget budget c.split_at.result.1.now read.0
    (omega (arith, few)) read.1 digits in
    omega (arith, same, few, great)
