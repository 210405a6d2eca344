use Rattle.std.proofs.Common.{◌<◌, ℕ, sym, subst}
use Rattle.ca_pin_sets.proofs.ForestLemmas.{forest_set, unite_lower, unite_higher}
use Rattle.ca_pin_sets.proofs.groups.unite.Goals as goal

pub returns-then-first-second-clause-united : goal.returns-then-first-second-clause-united
returns-then-first-second-clause-united c groups it =
    let first = c.find-first.ensures.kept groups it in
    unite_lower c.find-second.new.parents.items groups c.args.one c.args.other c.find-first.result c.find-second.result c.if-first-second.true
    c.find-second.ensures.forest (c.find-second.ensures.kept groups first) (c.find-first.ensures.found groups it)
    (c.find-second.ensures.found groups first) (first.root c.find-first.result c.find-first.ensures.root)
    (subst (λ (n : ℕ). c.find-first.result < n) (sym c.find-second.ensures.count) c.find-first.ensures.within)
    c.find-second.ensures.root c.find-second.ensures.within

pub returns-else-first-second-clause-forest : goal.returns-else-first-second-clause-forest
returns-else-first-second-clause-forest c =
    forest_set c.find-second.new.parents.items c.find-first.result c.find-second.result c.find-second.ensures.forest
    (subst (λ (n : ℕ). c.find-first.result < n) (sym c.find-second.ensures.count) c.find-first.ensures.within) c.if-first-second.false

pub returns-else-first-second-clause-united : goal.returns-else-first-second-clause-united
returns-else-first-second-clause-united c groups it =
    let first = c.find-first.ensures.kept groups it in
    unite_higher c.find-second.new.parents.items groups c.args.one c.args.other c.find-first.result c.find-second.result c.if-first-second.false
    c.find-second.ensures.forest (c.find-second.ensures.kept groups first) (c.find-first.ensures.found groups it)
    (c.find-second.ensures.found groups first) (first.root c.find-first.result c.find-first.ensures.root)
    (subst (λ (n : ℕ). c.find-first.result < n) (sym c.find-second.ensures.count) c.find-first.ensures.within)
    c.find-second.ensures.root
