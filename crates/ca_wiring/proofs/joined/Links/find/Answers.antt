use Rattle.std.proofs.Common.{◌≡◌, ◌+◌, sym, ◌∙◌, subst, arith}
use Rattle.ca_wiring.specs.code.Forest.{HasRoot, parent_of}
use Rattle.ca_wiring.proofs.ForestLemmas.{some_root, below_root, root_itself, shortens_none, shortens_then}
use Rattle.ca_wiring.proofs.joined.Links.find.Goals as goal

pub steps-init : goal.steps-init
steps-init c =
    let found = some_root c.args.self.now c.requires.back (c.args.w + 1) c.args.w (omega arith) in
    record {
      shortens = shortens_none c.args.self.now c.requires.back;
      one = (found.0, found.1, found.1);
      within = c.requires.within;
    }

pub steps-preserved : goal.steps-preserved
steps-preserved c =
    let one = c.steps.invariant.one in
    let old = c.steps.self in
    let short = c.halve-at.ensures.shortens in
    let following = below_root old (parent_of old c.steps.at) one.0 (below_root old c.steps.at one.0 one.2) in
    record {
      shortens = shortens_then c.args.self.now old c.halve-at.new.self c.steps.invariant.shortens short;
      one = (
        one.0,
        short.roots c.args.w one.0 one.1,
        short.roots c.halve-at.result one.0 (subst (λ x. HasRoot old x one.0) (sym c.halve-at.ensures.following) following),
      );
      within =
          let first = c.steps.invariant.shortens.back c.steps.at in
          let second = c.steps.invariant.shortens.back (parent_of old c.steps.at) in
          let e = c.halve-at.ensures.following in
          let within = c.steps.invariant.within in
          omega (arith, short.count);
    }

pub returns-clause-root : goal.returns-clause-root
returns-clause-root c =
    let one = c.steps.invariant.one in
    let own : parent_of c.steps.self c.steps.at ≡ c.steps.at = sym c.parent.ensures ∙ c.steps-test.false in
    subst (HasRoot c.steps.self c.args.w) (sym (root_itself c.steps.self c.steps.at one.0 own one.2)) one.1
