use Rattle.ca_judge.proofs.JudgeLemmas.{aimed_for}
use Rattle.ca_judge.proofs.chip_judge.ChipJudgeJudge.attempt.Goals as goal

pub try_ways-requires-clause-aimed : goal.try_ways-requires-clause-aimed
try_ways-requires-clause-aimed g c =
    aimed_for c.self.inside.sim.seen _ _ _ _ _ _ c.self.invariant.0 c.in-Some.defect c.in-Some.is
