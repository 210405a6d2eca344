use Rattle.std.proofs.Common.{rules, arith, ℕ, ◌≡◌, ◌∙◌, ◌++◌, ◌∷◌, [], List, ap, sym, subst, length, ◌+◌}
use Rattle.ca_flat.specs.declared.chip_defect.ChipDefect.{ChipDefect}
use Rattle.ca_judge.specs.Attempt.{IsTriedOn}
use Rattle.ca_sweep.specs.Seen.{IsForChip}
use Rattle.ca_engine.specs.ChipBench.{Benched}
use Rattle.ca_bridges.specs.code.Parts.{AreEachFrom, IsPartOf, AreParts}
use Rattle.ca_bridges.proofs.PartLemmas.{each_from, each_here, each_after, parts_begin, parts_more}
use Rattle.ca_bridges.proofs.parts.parts_of.Goals as goal

pub loop-k-init : goal.loop-k-init
loop-k-init g c = record {
  are = parts_begin c.args.own.now.core c.args.budget c.args.clusters.now c.in_ok-good.good c.push.new.self.items
      (subst (λ (shorts : List ChipDefect). IsPartOf c.args.own.now.core shorts c.args.budget c.in_ok-good.good) c.new-none.ensures
      c.in_ok-good.ensures) (c.in_ok-push.ensures.items ∙ ap (λ (front : List Benched). front ++ c.in_ok-good.good ∷ []) c.new-parts.ensures.items);
  left = let counted = c.requires.choices.counted in let as_many = c.requires.views.counted in omega arith;
  found = let counted = c.requires.finders.counted in let as_many = c.requires.views.counted in omega arith;
  finders = each_from (λ view finder. IsForChip view.core view.ranks (g.F.FlipFinder.loaded finder)) c.args.views.now (length c.args.views.now)
      c.args.finders.items c.requires.finders;
  choices = each_from (λ view choice. IsTriedOn view.core view.ranks (g.P.Attempts.tried choice)) c.args.views.now (length c.args.views.now)
      c.args.choices.items c.requires.choices;
}

pub cluster_part-requires-clause-choice : goal.cluster_part-requires-clause-choice
cluster_part-requires-clause-choice g c =
    each_here (λ view choice. IsTriedOn view.core view.ranks (g.P.Attempts.tried choice)) c.args.views.now c.loop-k.k c.loop-k.choices.items
    c.remove-choice.result c.loop-k.invariant.choices
    (let left = c.loop-k.invariant.left in let within = c.loop-k-test.true in omega arith) c.remove-choice.ensures.value

pub cluster_part-requires-clause-finder : goal.cluster_part-requires-clause-finder
cluster_part-requires-clause-finder g c =
    each_here (λ view finder. IsForChip view.core view.ranks (g.F.FlipFinder.loaded finder)) c.args.views.now c.loop-k.k c.loop-k.finders.items
    c.remove-finder.result c.loop-k.invariant.finders
    (let found = c.loop-k.invariant.found in let within = c.loop-k-test.true in omega arith) c.remove-finder.ensures.value

pub loop-k-preserved : goal.loop-k-preserved
loop-k-preserved g c = record {
  are = parts_more c.args.own.now.core c.args.budget c.args.clusters.now c.loop-k.k c.loop-k.parts.items
      c.push-in-loop-k.new.self.items c.in_ok-part.part c.loop-k.invariant.are c.in_ok-part.ensures c.in_ok-push-2.ensures.items;
  left = search rules;
  found = search rules;
  finders = subst (AreEachFrom (λ view finder. IsForChip view.core view.ranks (g.F.FlipFinder.loaded finder)) c.args.views.now (c.loop-k.k + 1))
      (sym c.remove-finder.ensures.items) (each_after (λ view finder. IsForChip view.core view.ranks (g.F.FlipFinder.loaded finder))
      c.args.views.now c.loop-k.k c.loop-k.finders.items c.loop-k.invariant.finders);
  choices = subst (AreEachFrom (λ view choice. IsTriedOn view.core view.ranks (g.P.Attempts.tried choice)) c.args.views.now (c.loop-k.k + 1))
      (sym c.remove-choice.ensures.items) (each_after (λ view choice. IsTriedOn view.core view.ranks (g.P.Attempts.tried choice))
      c.args.views.now c.loop-k.k c.loop-k.choices.items c.loop-k.invariant.choices);
}

pub returns : goal.returns
returns g c =
    let past = c.loop-k-test.false in
    let left = c.loop-k.invariant.left in
    subst (λ (n : ℕ). AreParts c.args.own.now.core c.args.budget c.args.clusters.now n c.loop-k.parts.items) (omega arith)
    c.loop-k.invariant.are
