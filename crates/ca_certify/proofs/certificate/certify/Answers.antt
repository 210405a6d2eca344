use Rattle.std.proofs.Common.{Option, subst}
use Rattle.ca_flat.specs.declared.chip_defect.ChipDefect.{ChipDefect}
use Rattle.ca_linked.specs.Linked.{LinkedChip}
use Rattle.ca_view.specs.Core.{core_of}
use Rattle.ca_flatten.specs.Few.{IsFew}
use Rattle.ca_judge.specs.ChipJudge.{CanBeJudged}
use Rattle.ca_certify.specs.Verdicts.{viewed_task}
use Rattle.ca_certify.proofs.ViewLemmas.{core_can_be_judged}
use Rattle.ca_certify.proofs.VerdictLemmas.{good_are_known, claimed_good, claimed_stand}
use Rattle.ca_certify.proofs.certificate.certify.Goals as goal

pub claims_by-requires-clause-judged : goal.claims_by-requires-clause-judged
claims_by-requires-clause-judged c =
    core_can_be_judged c.args.view.now c.viewed.ensures.wired c.flat_is_well_formed.ensures
    (subst (λ (chip : LinkedChip). (given : Option ChipDefect) → IsFew (core_of chip) given) c.chip.ensures c.in_ok-judge_size.ensures)
    c.viewed.ensures.is_view

pub claims_by-requires-clause-known : goal.claims_by-requires-clause-known
claims_by-requires-clause-known c =
    let judged : CanBeJudged c.args.view.now.core = core_can_be_judged c.args.view.now c.viewed.ensures.wired c.flat_is_well_formed.ensures
    (subst (λ (chip : LinkedChip). (given : Option ChipDefect) → IsFew (core_of chip) given) c.chip.ensures c.in_ok-judge_size.ensures)
    c.viewed.ensures.is_view in
    good_are_known c.args.view.now.core (viewed_task c.args.view.now c.args.budget).defects c.args.budget c.args.made.now.pairs c.args.made.now.aims c.args.made.now.verdicts
    judged.few c.requires.good

pub returns-clause-good : goal.returns-clause-good
returns-clause-good c =
    claimed_good c.args.view.now.core (viewed_task c.args.view.now c.args.budget).defects c.args.budget c.args.made.now.pairs c.args.made.now.aims c.args.made.now.verdicts
    c.in_ok-claims.claims c.requires.good (c.in_ok-claims.ensures).counted (c.in_ok-claims.ensures).claims

pub returns-clause-stands : goal.returns-clause-stands
returns-clause-stands c =
    claimed_stand c.args.view.now.core (viewed_task c.args.view.now c.args.budget).defects c.args.budget c.args.made.now.pairs c.args.made.now.aims c.args.made.now.verdicts
    c.in_ok-claims.claims c.requires.good (c.in_ok-claims.ensures).counted (c.in_ok-claims.ensures).claims
