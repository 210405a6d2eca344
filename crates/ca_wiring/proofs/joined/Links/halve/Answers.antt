use Rattle.std.proofs.Common.{sym, ◌∙◌, ap, subst, set}
use Rattle.ca_wiring.specs.code.Forest.{parent_of, Shortens}
use Rattle.ca_wiring.proofs.ForestLemmas.{halved}
use Rattle.ca_wiring.proofs.joined.Links.halve.Goals as goal

pub returns-clause-shortens : goal.returns-clause-shortens
returns-clause-shortens c =
    subst (Shortens c.args.self.now)
    (sym (c.set.ensures ∙ ap (set c.args.self.now c.args.w) (c.parent-following.ensures ∙ ap (parent_of c.args.self.now) c.parent.ensures)))
    (halved c.args.self.now c.args.w c.requires.within c.requires.back)
