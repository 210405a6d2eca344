use Rattle.std.proofs.Common.{sym, subst}
use Rattle.ca_view.specs.Linked.{IsAim, place_in}
use Rattle.ca_judge.proofs.JudgeLemmas.{aim_in_chip}
use Rattle.ca_judge.proofs.chip_judge.ChipJudge.aim.Goals as goal

pub guide_to-requires-clause-defect : goal.guide_to-requires-clause-defect
guide_to-requires-clause-defect g c =
    let aim = subst (λ sim. IsAim sim.seen.chip (place_in sim.seen.places) c.args.defect) (sym c.self.view_is)
    c.requires in
    aim_in_chip _ _ _ c.args.defect c.self.invariant.0.same aim
