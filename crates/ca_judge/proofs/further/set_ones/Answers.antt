use Rattle.ca_judge.proofs.AttemptLemmas.{unshown_if}
use Rattle.ca_judge.proofs.further.set_ones.Goals as goal

pub follow_token-requires-clause-unshown : goal.follow_token-requires-clause-unshown
follow_token-requires-clause-unshown c =
    let way = c.loop.invariant.way in
    unshown_if c.loop.confined _ _ way.chip_is way.aim_is _ c.if-is_shown.false c.is_shown.ensures
