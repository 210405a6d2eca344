use Rattle.std.proofs.Common.{◌≡◌, ◌<◌, ◌+◌, ◌^◌, ◌∙◌, length, ℕ, List, Some, ap, sym, subst, arith, refl}
use Rattle.std.specs.Prelude.{slice_get}
use Rattle.ca_credit.specs.Defects.{IsOfOneChip}
use Rattle.ca_diag.specs.declared.candidate.Candidate.{Candidate}
use Rattle.ca_diag.specs.code.Pass.{IsPassTo}
use Rattle.ca_diag.proofs.FailingLemmas.{of_get}
use Rattle.ca_diag.proofs.PassLemmas.{was_there, left_step, kept_step, left_by, kept_by, adds_few}
use Rattle.ca_diag.proofs.pass.pass.Goals as goal
use Rattle.ca_diag.proofs.pass.pass.Goals.{in-Some, in_default}

pub overflow_add-one : goal.overflow_add-one
overflow_add-one g c =
    let task = g.S.Simulator.task c.args.sim.now in
    let bits = g.S.Simulator.bits c.args.sim.now in
    let outputs = c.args.failing.now.outputs.now in
    let old = c.args.list.now.items in
    let one = c.candidate_at-one.result in
    let here : slice_get c.loop-k.list.items c.loop-k.k ≡ Some one =
    ap (λ (list : List Candidate). slice_get list c.loop-k.k) (sym c.deref.ensures.value) ∙ c.candidate_at-one.ensures in
    let at = was_there task bits outputs old c.loop-k.list.items c.loop-k.k c.loop-k.kept one c.loop-k.invariant.passed here in
    let within = of_get (λ (one : Candidate). one.defect < length task.defects) old c.loop-k.k one c.requires.within at in
    let fits = of_get (λ (one : Candidate). one.explained + length outputs < 2 ^ 32) old c.loop-k.k one c.requires.few at in
    let more = adds_few task bits outputs (g.S.Simulator.task c.loop-k.sim) (g.S.Simulator.bits c.loop-k.sim) one
    c.loop-k.invariant.task c.loop-k.invariant.bits within c.in-Some.more (c.in-Some.ensures {u = tt}).judged in
    omega (arith, fits, more)

pub loop-k-preserved : goal.loop-k-preserved
loop-k-preserved g c =
    let task = g.S.Simulator.task c.args.sim.now in
    let bits = g.S.Simulator.bits c.args.sim.now in
    let outputs = c.args.failing.now.outputs.now in
    let old = c.args.list.now.items in
    let one = c.candidate_at-one.result in
    let here : slice_get c.loop-k.list.items c.loop-k.k ≡ Some one =
    ap (λ (list : List Candidate). slice_get list c.loop-k.k) (sym c.deref.ensures.value) ∙ c.candidate_at-one.ensures in
    let at = was_there task bits outputs old c.loop-k.list.items c.loop-k.k c.loop-k.kept one c.loop-k.invariant.passed here in
    let within = of_get (λ (one : Candidate). one.defect < length task.defects) old c.loop-k.k one c.requires.within at in
    elim c.match-judge.branch [
      | in-Some w ↦ record {
        task = c.judge.ensures.task ∙ c.loop-k.invariant.task;
        bits = c.judge.ensures.bits ∙ c.loop-k.invariant.bits;
        passed =
            let last : Candidate = record { defect = c.candidate_at-one.result.defect; explained = c.candidate_at-one.result.explained + w.in-Some.more } in
            subst (λ (n : ℕ). IsPassTo task bits outputs old (c.loop-k.k + 1) n c.match-judge.list.items) (sym w.kept-is)
            (subst (λ (given : List Candidate). IsPassTo task bits outputs old (c.loop-k.k + 1) (c.loop-k.kept + 1) given)
            (sym (ap (λ vec. vec.items) w.list-is))
            (kept_step task bits outputs old c.loop-k.list.items c.loop-k.k c.loop-k.kept one c.loop-k.invariant.passed here last
            (kept_by task bits outputs (g.S.Simulator.task c.loop-k.sim) (g.S.Simulator.bits c.loop-k.sim) one c.loop-k.invariant.task
            c.loop-k.invariant.bits within w.in-Some.more last (w.in-Some.ensures {u = tt}).judged refl refl)));
      }
      | in_default w ↦ record {
        task = c.judge.ensures.task ∙ c.loop-k.invariant.task;
        bits = c.judge.ensures.bits ∙ c.loop-k.invariant.bits;
        passed =
            subst (λ (n : ℕ). IsPassTo task bits outputs old (c.loop-k.k + 1) n c.match-judge.list.items) (sym w.kept-is)
            (subst (λ (given : List Candidate). IsPassTo task bits outputs old (c.loop-k.k + 1) c.loop-k.kept given)
            (sym (ap (λ vec. vec.items) w.list-is))
            (left_step task bits outputs old c.loop-k.list.items c.loop-k.k c.loop-k.kept one c.loop-k.invariant.passed here
            (left_by task bits outputs (g.S.Simulator.task c.loop-k.sim) (g.S.Simulator.bits c.loop-k.sim) one c.loop-k.invariant.task
            c.loop-k.invariant.bits within (w.in_default.ensures {u = tt}).judged)));
      }
    ]

pub judge-requires-clause-one_chip : goal.judge-requires-clause-one_chip
judge-requires-clause-one_chip g c = subst IsOfOneChip (sym c.loop-k.invariant.task) c.requires.one_chip
