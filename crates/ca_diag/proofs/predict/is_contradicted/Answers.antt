use Rattle.std.proofs.Common.{false, arith, rules, IsTrue, subst}
use Rattle.ca_diag.specs.code.Judged.{IsAgainstAt}
use Rattle.ca_diag.proofs.JudgeLemmas.{none_more}
use Rattle.ca_diag.proofs.predict.is_contradicted.Goals as goal

pub loop-output-preserved : goal.loop-output-preserved
loop-output-preserved g c = λ defect at.
    none_more (IsAgainstAt (g.S.Simulator.task c.args.sim.now).chip (g.S.Simulator.bits c.args.sim.now) c.args.failing.now.outputs.now defect)
    c.loop-output.output (c.loop-output.invariant defect at)
    (λ against. let is = (c.is_against.ensures defect at).1 against in
    let wrong : IsTrue false = subst IsTrue c.if-is_against.false is in search rules)

pub returns : goal.returns
returns g c = λ defect at. (
  λ wrong. search rules,
  λ some.
      let within = some.within in
      let past = c.loop-output-test.false in
      let count = c.output_count-output-end.ensures in
      absurd (c.loop-output.invariant defect at some.output (omega (arith, within, past, count)) some.against),
)
