use Rattle.std.proofs.Common.{◌<◌, ◌∙◌, sym, subst}
use Rattle.ca_search.proofs.WayLemmas.{popped_bit, way_shorter, no_leaf_popped, fewer_within}
use Rattle.ca_judge.specs.ChipJudge.{judged_of}
use Rattle.ca_judge.proofs.AttemptLemmas.{tried_kept}
use Rattle.ca_judge.proofs.attempt.take_back.Goals as goal

pub set-requires-clause-bit : goal.set-requires-clause-bit
set-requires-clause-bit c =
    subst (λ n. c.in-Branch.bit < n) (sym c.whole.ensures.bits)
    (popped_bit (judged_of c.args.confined.now) _ _ _ _ _ c.requires.way.way c.in-Some.ensures.items (sym c.unpacked.ensures ∙ c.in-Branch.is))

pub returns-in-Branch-clause-way : goal.returns-in-Branch-clause-way
returns-in-Branch-clause-way c =
    let old = c.args.confined.now in
    let new = c.set.new.self in
    let was = c.requires.way in
    record {
      chip_is = c.set.ensures.aim.chip.chip ∙ was.chip_is;
      aim_is = c.set.ensures.aim.aim ∙ was.aim_is;
      way = way_shorter (judged_of old) (judged_of new) _ _ _ _ _ was.way c.in-Some.ensures.items (sym c.unpacked.ensures ∙ c.in-Branch.is)
          (tried_kept old new _ c.set.ensures.pair c.set.ensures.aim);
      within = fewer_within _ _ _ _ c.in-Some.ensures.items was.within;
    }

pub returns-in-Leaf-clause-way : goal.returns-in-Leaf-clause-way
returns-in-Leaf-clause-way c = absurd (no_leaf_popped (judged_of c.args.confined.now) _ _ _
    c.requires.way.way c.in-Some.ensures.items (sym c.unpacked.ensures ∙ c.in-Leaf.is))
