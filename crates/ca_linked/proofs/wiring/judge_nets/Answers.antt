use Rattle.std.proofs.Common.{◌∙◌, sym, subst}
use Rattle.ca_linked.specs.Wired.{IsFirstMisdriven}
use Rattle.ca_linked.specs.code.Paths.{IsObservedAt}
use Rattle.ca_linked.proofs.WiredLemmas.{all_single, misdriven, are_driven}
use Rattle.ca_linked.proofs.wiring.judge_nets.Goals as goal

pub returns-in-Some-clause-cause : goal.returns-in-Some-clause-cause
returns-in-Some-clause-cause c =
    subst (IsFirstMisdriven c.args.draft.now c.in-Some.net) (sym c.get.ensures)
    (misdriven c.args.draft.now c.args.drivers.now c.requires.drivers c.in-Some.net c.in-Some.ensures.some)

pub returns-in-Some-2-clause-cause : goal.returns-in-Some-2-clause-cause
returns-in-Some-2-clause-cause c =
    let single = all_single c.args.draft.now c.args.drivers.now c.requires.drivers c.in_default.ensures.none in
    (are_driven c.args.draft.now c.args.drivers.now single, sym c.in_ok-misused.ensures ∙ c.in-Some-2.is)

pub returns-in-Some-3-clause-cause : goal.returns-in-Some-3-clause-cause
returns-in-Some-3-clause-cause c =
    let single = all_single c.args.draft.now c.args.drivers.now c.requires.drivers c.in_default.ensures.none in (
      are_driven c.args.draft.now c.args.drivers.now single,
      sym c.in_ok-misused.ensures ∙ c.in_default-2.is,
      subst (IsObservedAt c.args.draft.now) c.in-Some-3.is c.in_ok-net.ensures,
    )

pub returns-clause-ok : goal.returns-clause-ok
returns-clause-ok c =
    let single = all_single c.args.draft.now c.args.drivers.now c.requires.drivers c.in_default.ensures.none in
    record {
      driven = are_driven c.args.draft.now c.args.drivers.now single;
      used = sym c.in_ok-misused.ensures ∙ c.in_default-2.is;
      unobserved = subst (IsObservedAt c.args.draft.now) c.in_default-3.is c.in_ok-net.ensures;
    }

pub returns-clause-single : goal.returns-clause-single
returns-clause-single c = all_single c.args.draft.now c.args.drivers.now c.requires.drivers c.in_default.ensures.none
