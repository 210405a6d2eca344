use Rattle.std.proofs.Common.{◌<◌, length, sym, subst}
use Rattle.std.specs.Prelude.{IsSome}
use Rattle.std.specs.List.{All}
use Rattle.ca_search.specs.Judged.{IsStanding}
use Rattle.ca_judge.specs.ChipJudge.{judged_of}
use Rattle.ca_judge.specs.code.Ends.{LooksSo}
use Rattle.ca_judge.proofs.JudgeLemmas.{outputs_within, judge_stands}
use Rattle.ca_judge.proofs.chip_judge.ChipJudgeJudge.standing.Goals as goal

pub standing-requires : goal.standing-requires
standing-requires g c =
    subst (All (λ net. net < length c.self.inside.sim.seen.chip.nets)) (sym c.deref.ensures.value)
    (outputs_within c.self.inside.sim.seen _ _ _ _ c.self.inside.outputs.items _ c.self.invariant.0)

pub returns : goal.returns
returns g c =
    let inside = c.self.inside in
    let some = subst (λ sim. IsSome sim.seen.aim) (sym c.self.view_is) c.requires in
    let looks = subst (λ outputs. LooksSo inside.sim.seen outputs c.standing.result) c.deref.ensures.value
    c.standing.ensures in
    subst (λ sim. IsStanding (judged_of sim.seen) c.standing.result) c.self.view_is
    (judge_stands inside.sim.seen _ _ _ _ inside.outputs.items _ c.self.invariant.0 c.exact.ensures some
    c.standing.result looks)
