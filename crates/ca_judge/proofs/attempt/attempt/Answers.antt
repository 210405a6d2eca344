use Rattle.ca_judge.proofs.AttemptLemmas.{unshown_if}
use Rattle.ca_judge.proofs.attempt.attempt.Goals as goal

pub step-requires-clause-unshown : goal.step-requires-clause-unshown
step-requires-clause-unshown g c =
    let way = c.loop.invariant.way in
    unshown_if c.loop.confined _ _ way.chip_is way.aim_is _ c.if-is_shown.false c.is_shown.ensures
