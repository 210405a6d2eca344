use Rattle.std.proofs.Common.{◌≡◌, ℕ, List, ◌++◌, ◌∷◌, [], ap, sym, ◌∙◌, subst, arith}
use Rattle.ca_pin_sets.specs.Groups.{alone}
use Rattle.ca_pin_sets.specs.code.Forest.{IsForest, Realizes}
use Rattle.ca_pin_sets.proofs.ForestLemmas.{alone_more, alone_forest, alone_realizes}
use Rattle.ca_pin_sets.proofs.groups.alone.Goals as goal

pub loop-net-preserved : goal.loop-net-preserved
loop-net-preserved c =
    c.in_ok-push.ensures.items ∙ ap (λ (nets : List ℕ). nets ++ c.loop-net.net ∷ []) c.loop-net.invariant ∙ sym (alone_more c.loop-net.net)

pub returns-clause-forest : goal.returns-clause-forest
returns-clause-forest c =
    subst IsForest (sym c.loop-net.invariant) (alone_forest c.loop-net.net)

pub returns-clause-realizes : goal.returns-clause-realizes
returns-clause-realizes c =
    let all : c.loop-net.net ≡ c.args.nets = omega arith in
    subst (λ (nets : ℕ). Realizes c.loop-net.parents.items (alone nets)) all
    (subst (λ (parents : List ℕ). Realizes parents (alone c.loop-net.net)) (sym c.loop-net.invariant) (alone_realizes c.loop-net.net))
