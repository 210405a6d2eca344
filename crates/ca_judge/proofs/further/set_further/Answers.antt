use Rattle.ca_judge.proofs.AttemptLemmas.{unshown_if}
use Rattle.ca_judge.proofs.further.set_further.Goals as goal

pub follow_token-requires-clause-unshown : goal.follow_token-requires-clause-unshown
follow_token-requires-clause-unshown c =
    let way = c.set_ones.ensures.way in
    unshown_if c.set_ones.new.confined _ _ way.chip_is way.aim_is _ c.if-is_shown.false c.is_shown-2.ensures
