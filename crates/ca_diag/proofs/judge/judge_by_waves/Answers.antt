use Rattle.std.proofs.Common.{ℕ, false, rules, IsTrue, Some, ◌∙◌, ap, sym, subst}
use Rattle.ca_flat.specs.Chip.{Chip}
use Rattle.ca_diag.proofs.JudgeLemmas.{by_waves}
use Rattle.ca_diag.proofs.judge.judge_by_waves.Goals as goal

pub is_contradicted-requires-clause-own : goal.is_contradicted-requires-clause-own
is_contradicted-requires-clause-own g c =
    c.aim.ensures.aimed_in ∙ ap (λ (of : ℕ → Chip). of c.args.place) c.requires.one_chip ∙ ap (λ task. task.chip) (sym c.aim.ensures.task)

pub explained-requires-clause-own : goal.explained-requires-clause-own
explained-requires-clause-own g c =
    c.aim.ensures.aimed_in ∙ ap (λ (of : ℕ → Chip). of c.args.place) c.requires.one_chip ∙ ap (λ task. task.chip) (sym c.aim.ensures.task)

pub returns-clause-judged : goal.returns-clause-judged
returns-clause-judged g c =
    by_waves (g.S.Simulator.task c.args.sim.now) (g.S.Simulator.task c.aim.new.self) (g.S.Simulator.bits c.args.sim.now)
    (g.S.Simulator.bits c.aim.new.self) (g.S.Simulator.aimed c.aim.new.self) c.args.failing.now.outputs.now c.args.place
    c.aim.ensures.task c.aim.ensures.bits c.aim.ensures.aimed (Some c.explained.result)
    (λ defect at. (
      λ some.
          let is = (c.is_contradicted.ensures defect at).1 some in
          let wrong : IsTrue false = subst IsTrue c.if-is_contradicted.false is in search rules,
      c.explained.ensures defect at,
    ))
