use Rattle.std.proofs.Common.{◌∙◌}
use Rattle.ca_search.proofs.WayLemmas.{way_longer, more_within}
use Rattle.ca_judge.specs.ChipJudge.{judged_of}
use Rattle.ca_judge.proofs.AttemptLemmas.{tried_kept, unshown_here, may_here}
use Rattle.ca_judge.proofs.attempt.set.Goals as goal

pub returns-clause-way : goal.returns-clause-way
returns-clause-way c =
    let old = c.args.confined.now in
    let new = c.set.new.self in
    let core = c.args.aimed.now.view.now.core in
    let defect = c.args.aimed.now.defect in
    let was = c.requires.way in
    record {
      chip_is = c.set.ensures.aim.chip.chip ∙ was.chip_is;
      aim_is = c.set.ensures.aim.aim ∙ was.aim_is;
      way = way_longer (judged_of old) (judged_of new) _ _ _ _ _ was.way (unshown_here old core defect was.chip_is was.aim_is c.requires.unshown)
          (may_here old core defect was.chip_is was.aim_is c.args.bit c.requires.may) (tried_kept old new _ c.set.ensures.pair c.set.ensures.aim)
          c.push_reserved.ensures.items c.packed.ensures;
      within = more_within _ _ _ _ c.push_reserved.ensures.items c.requires.unspent;
    }
