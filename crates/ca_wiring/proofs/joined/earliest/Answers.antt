use Rattle.std.proofs.Common.{◌∙◌, [], subst, sym}
use Rattle.std.specs.List.{All}
use Rattle.ca_wiring.specs.code.Spans.{IsSpanWithin}
use Rattle.ca_wiring.specs.code.Forest.{AreTheirOwn}
use Rattle.ca_wiring.proofs.ForestLemmas.{own_forest, roots_are_earliest}
use Rattle.ca_wiring.proofs.joined.earliest.Goals as goal

pub unite_all-requires-clause-back : goal.unite_all-requires-clause-back
unite_all-requires-clause-back c =
    let begun = c.in_ok-links.ensures {u = tt} in
    (own_forest [] c.in_ok-links.links (subst (λ n. AreTheirOwn n c.in_ok-links.links) (sym begun.count) begun.own)).back

pub unite_all-requires-clause-within : goal.unite_all-requires-clause-within
unite_all-requires-clause-within c =
    let begun = c.in_ok-links.ensures {u = tt} in
    subst (λ n. All (IsSpanWithin n) c.args.spans.now) (sym begun.count) c.requires.within

pub returns : goal.returns
returns c = λ joins are.
    let begun = c.in_ok-links.ensures {u = tt} in
    let of_roots = c.in_ok-roots.ensures {u = tt} in
    let all = c.unite_all.ensures in
    let own = subst (λ n. AreTheirOwn n c.in_ok-links.links) (sym begun.count) begun.own in
    roots_are_earliest joins c.unite_all.new.self c.in_ok-roots.roots.items c.args.wires
    (all.forest joins are.all (own_forest joins c.in_ok-links.links own))
    (λ join has. all.united join (are.each join has))
    (all.count ∙ begun.count) of_roots.count of_roots.roots
