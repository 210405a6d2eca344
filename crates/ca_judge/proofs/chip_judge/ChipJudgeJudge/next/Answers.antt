use Rattle.std.proofs.Common.{◌∙◌, sym, subst}
use Rattle.ca_flat.specs.Rows.{ListsExposingRows}
use Rattle.ca_search.specs.Judged.{IsOpenFor, IsStep}
use Rattle.ca_judge.specs.ChipJudge.{judged_of}
use Rattle.ca_judge.proofs.JudgeLemmas.{asks, judge_steps}
use Rattle.ca_judge.proofs.chip_judge.ChipJudgeJudge.next.Goals as goal

pub next-requires-clause-support : goal.next-requires-clause-support
next-requires-clause-support g c =
    let inside = c.self.inside in
    let is_open = subst (λ sim. IsOpenFor sim.seen.chip sim.seen.aim sim.seen.pair) (sym c.self.view_is) c.requires in
    (asks inside.sim.seen _ _ _ _ _ _ c.self.invariant.0 c.exact.ensures c.in-Some.defect c.in-Some.is is_open).support

pub next-requires-clause-is_open : goal.next-requires-clause-is_open
next-requires-clause-is_open g c =
    let inside = c.self.inside in
    let is_open = subst (λ sim. IsOpenFor sim.seen.chip sim.seen.aim sim.seen.pair) (sym c.self.view_is) c.requires in
    (asks inside.sim.seen _ _ _ _ _ _ c.self.invariant.0 c.exact.ensures c.in-Some.defect c.in-Some.is is_open).is_open

pub next-requires-clause-rows : goal.next-requires-clause-rows
next-requires-clause-rows g c =
    subst (λ chip. ListsExposingRows chip c.in-Some.defect c.rows.result.now)
    (c.self.invariant.0.rows_are ∙ sym c.self.invariant.0.same) c.rows.ensures

pub returns-in-Some-clause-step : goal.returns-in-Some-clause-step
returns-in-Some-clause-step g c =
    let inside = c.self.inside in
    let is_open = subst (λ sim. IsOpenFor sim.seen.chip sim.seen.aim sim.seen.pair) (sym c.self.view_is) c.requires in
    subst (λ sim. IsStep (judged_of sim.seen) c.next.result) c.self.view_is
    (judge_steps inside.sim.seen _ _ _ _ _ _ c.self.invariant.0 c.exact.ensures c.in-Some.defect c.in-Some.is
    is_open c.next.result c.next.ensures.step)
