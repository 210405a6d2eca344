use Rattle.std.proofs.Common.{ℕ, ◌+◌, ◌<◌, List, subst, sym, ◌∙◌}
use Rattle.ca_credit.specs.declared.verdict.Verdict.{Verdict}
use Rattle.ca_credit.specs.Defects.{Task}
use Rattle.ca_credit.specs.Good.{IsGood}
use Rattle.ca_generate.specs.code.Progress.{StandsAfter}
use Rattle.ca_generate.proofs.GoodLemmas.{all_known_at_end, good_at_end}
use Rattle.ca_generate.specs.code.Progress.{WorkStands}
use Rattle.ca_generate.proofs.generated.generate_knowing.Goals as goal
use Rattle.ca_generate.proofs.generated.generate_knowing.Goals.{then-is_wanted+in_ok-end+in_ok-work-2, else-is_wanted}

pub verdicts-requires : goal.verdicts-requires
verdicts-requires g c =
    let task = g.B.Simulator.task c.args.bench.now in
    let work = c.catch_up-work.result in
    all_known_at_end task work.credits work.pairs work.aims
    (subst (λ (turns : ℕ). StandsAfter task turns work.credits work.pairs work.aims) c.defect_count-count.ensures
    (subst (λ (t : Task). StandsAfter t c.defect_count-count.result work.credits work.pairs work.aims) c.loop-place.invariant.1 c.catch_up-work.ensures.stands))

pub returns-clause-good : goal.returns-clause-good
returns-clause-good g c =
    let task = g.B.Simulator.task c.args.bench.now in
    let work = c.catch_up-work.result in
    subst (λ (verdicts : List Verdict). IsGood task work.pairs work.aims verdicts) (sym c.verdicts.ensures)
    (good_at_end task work.credits work.pairs work.aims
    (subst (λ (turns : ℕ). StandsAfter task turns work.credits work.pairs work.aims) c.defect_count-count.ensures
    (subst (λ (t : Task). StandsAfter t c.defect_count-count.result work.credits work.pairs work.aims) c.loop-place.invariant.1 c.catch_up-work.ensures.stands)))

pub loop-place-preserved : goal.loop-place-preserved
loop-place-preserved g c =
    let task = g.B.Simulator.task c.args.bench.now in
    let next = c.loop-place.place + 1 in
    let ready = c.ready-work.ensures.task ∙ c.loop-place.invariant.1 in
    elim c.if-is_wanted.branch [
      | then-is_wanted+in_ok-end+in_ok-work-2 w ↦
          let same = w.in_ok-end.ensures.task ∙ w.aim.ensures.task ∙ ready in
          rw (w.work-is, w.bench-is) (
            subst (λ (t : Task). WorkStands t next w.in_ok-work-2.work) same w.in_ok-work-2.ensures.ok,
            w.in_ok-work-2.ensures.task ∙ same,
          )
      | else-is_wanted w ↦
          rw (w.work-is, w.bench-is) (
            w.skip_turn-work.ensures task (subst (λ (count : ℕ). c.loop-place.place < count) c.defect_count-count.ensures c.loop-place-test.true)
                (subst (λ (t : Task). WorkStands t c.loop-place.place c.ready-work.result) c.loop-place.invariant.1 c.ready-work.ensures.stands)
                c.ready-work.ensures.ahead (λ none. c.requires.untestable c.loop-place.place (c.is_wanted.ensures.marked w.if-is_wanted.false none)),
            ready,
          )
    ]
