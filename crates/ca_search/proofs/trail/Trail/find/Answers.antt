use Rattle.ca_search.proofs.TrailLemmas.{trail_begins}
use Rattle.ca_search.proofs.WayLemmas.{branches_within, front_for}
use Rattle.ca_search.proofs.trail.Trail.find.Goals as goal

pub returns-then-attempt-clause-within : goal.returns-then-attempt-clause-within
returns-then-attempt-clause-within g c = branches_within _ _ c.attempt.ensures.within

pub returns-then-attempt-clause-outcome : goal.returns-then-attempt-clause-outcome
returns-then-attempt-clause-outcome g c =
    let now = g.J.Judge.judged c.attempt.new.self in
    let found = c.attempt.ensures.found c.if-attempt.true in
    (front_for now.chip now.aim _ now.pair c.flat.ensures found.way found.shown, found.shown)

pub search-requires-clause-stands : goal.search-requires-clause-stands
search-requires-clause-stands g c = trail_begins _ _ _ c.empty-2.ensures.emptied c.clear.ensures
