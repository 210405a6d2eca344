use Rattle.std.proofs.Common.{ℕ, ◌≡◌, refl, sym, ap, subst}
use Rattle.ca_flat.specs.Chip.{Chip}
use Rattle.ca_linked.specs.Instances.{gates_of}
use Rattle.ca_view.specs.Core.{core_of}
use Rattle.ca_view.specs.View.{Viewed}
use Rattle.ca_credit.specs.Defects.{Task}
use Rattle.ca_credit.specs.Good.{IsGood}
use Rattle.ca_credit.proofs.DetectionLemmas.{own_targets}
use Rattle.ca_engine.specs.ChipDefects.{chip_defects}
use Rattle.ca_engine.specs.ChipTask.{task_of}
use Rattle.ca_expected.proofs.WholeLemmas.{pairs_whole}
use Rattle.ca_certify.specs.Verdicts.{verdicts_of, viewed_task}
use Rattle.ca_certify.specs.Proven.{AllStand}
use Rattle.ca_certifying.proofs.certified.proved_over.Goals as goal

-- the task of a view is that of its chip
same_task : (view : Viewed) (budget : ℕ) → view.core ≡ core_of view.chip → viewed_task view budget ≡ task_of view.chip budget
same_task view budget core_is =
    ap (λ (core : Chip). let made : Task = record {
      chip = core;
      chip_of = λ place. core;
      defects = chip_defects core (gates_of view.chip);
      budget = budget;
    } in made) core_is

pub stil_over-requires-clause-whole : goal.stil_over-requires-clause-whole
stil_over-requires-clause-whole c =
    let task = task_of c.args.view.now.chip c.args.budget in
    pairs_whole task c.args.made.now.pairs c.args.made.now.aims (own_targets task refl) c.requires.good.aims_are

pub certify-requires-clause-good : goal.certify-requires-clause-good
certify-requires-clause-good c =
    let view = c.args.view.now in
    let made = c.args.made.now in
    subst (λ (task : Task). IsGood task made.pairs made.aims made.verdicts)
    (sym (same_task view c.args.budget c.viewed.ensures.is_view.core_is)) c.requires.good

pub returns-clause-certified : goal.returns-clause-certified
returns-clause-certified c =
    let view = c.args.view.now in
    let made = c.args.made.now in
    let certificate = c.in_ok-certificate.certificate in
    let same = same_task view c.args.budget c.viewed.ensures.is_view.core_is in
    record {
      budget_is = c.in_ok-certificate.ensures.budget;
      good = subst (λ (task : Task). IsGood task made.pairs made.aims (verdicts_of certificate.claims)) same c.in_ok-certificate.ensures.good;
      stand = subst (λ (task : Task). AllStand task made.pairs certificate.claims) same c.in_ok-certificate.ensures.stands;
    }
