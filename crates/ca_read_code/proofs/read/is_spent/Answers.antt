use Rattle.std.proofs.Common.{◌≡◌, true, false, sym, ◌∙◌, subst}
use Rattle.ca_read_code.specs.declared.walk.CodeEnd.TheVariants.{Unlawful, Whole, Front}
use Rattle.ca_read_code.specs.code.CodeEnd.{IsEnd}
use Rattle.ca_read_code.proofs.ReadLemmas.{not_spent, spent_of, spent_goes_on}
use Rattle.ca_read_code.proofs.read.is_spent.Goals as goal

pub returns-in-Unlawful-clause-spent : goal.returns-in-Unlawful-clause-spent
returns-in-Unlawful-clause-spent g c = (
  λ yes. absurd (let clash : false ≡ true = yes in cc),
  λ spent. absurd (not_spent (g.E.Examiner.examined c.read.new.examiner) c.args.code.now c.args.budget c.in_ok-read.field-0 c.in_ok-read.ensures.end
      (λ is. let clash : Unlawful ≡ Front = sym c.in-Unlawful.is ∙ is in cc) spent),
)

pub returns-in-Whole-clause-spent : goal.returns-in-Whole-clause-spent
returns-in-Whole-clause-spent g c = (
  λ yes. absurd (let clash : false ≡ true = yes in cc),
  λ spent. absurd (not_spent (g.E.Examiner.examined c.read.new.examiner) c.args.code.now c.args.budget c.in_ok-read.field-0 c.in_ok-read.ensures.end
      (λ is. let clash : Whole ≡ Front = sym c.in-Whole.is ∙ is in cc) spent),
)

pub returns-then-branch_count-budget-clause-spent : goal.returns-then-branch_count-budget-clause-spent
returns-then-branch_count-budget-clause-spent g c =
    let now = g.E.Examiner.examined c.read.new.examiner in
    let front = subst (IsEnd now c.args.code.now) c.in-Front.is c.in_ok-read.ensures.end in (
      λ yes. spent_of now c.args.code.now c.args.budget front (sym c.branch_count.ensures ∙ c.if-branch_count-budget.true) (c.may_go_on.ensures.0 yes),
      λ spent. c.may_go_on.ensures.1 (spent_goes_on now c.args.code.now c.args.budget front spent),
    )
