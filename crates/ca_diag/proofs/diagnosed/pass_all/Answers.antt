use Rattle.std.proofs.Common.{◌≡◌, ◌<◌, ◌+◌, ◌^◌, ◌∙◌, length, ℕ, List, sym, subst}
use Rattle.std.specs.List.{All}
use Rattle.ca_credit.specs.Defects.{Task, IsOfOneChip}
use Rattle.ca_code.specs.Filled.{trits_of}
use Rattle.ca_diag.specs.declared.candidate.Candidate.{Candidate}
use Rattle.ca_diag.specs.code.Failing.{outputs_at}
use Rattle.ca_diag.specs.code.Pass.{IsPass}
use Rattle.ca_diag.proofs.FailingLemmas.{outputs_within}
use Rattle.ca_diag.proofs.OpenLemmas.{open_few, pass_open}
use Rattle.ca_diag.proofs.diagnosed.pass_all.Goals as goal

pub pass_with-requires-clause-one_chip : goal.pass_with-requires-clause-one_chip
pass_with-requires-clause-one_chip g c = subst IsOfOneChip (sym c.loop-place.invariant.task) c.requires.one_chip

pub pass_with-requires-clause-few : goal.pass_with-requires-clause-few
pass_with-requires-clause-few g c =
    let below = c.loop-place-test.true in
    let same : c.outputs.result.now ≡ outputs_at c.loop-place.place c.args.log.now =
    c.outputs.ensures ∙ c.requires.by.each c.loop-place.place below in
    subst (λ (outputs : List ℕ). All (λ (one : Candidate). one.explained + length outputs < 2 ^ 32) c.loop-place.list.items) (sym same)
    (open_few (g.S.Simulator.task c.args.sim.now) c.args.pairs.now c.args.log.now c.loop-place.place c.pair_at.result.now c.pair_at.ensures
    c.loop-place.list.items c.requires.few c.loop-place.invariant.passed)

pub pass_with-requires-clause-outputs : goal.pass_with-requires-clause-outputs
pass_with-requires-clause-outputs g c =
    let below = c.loop-place-test.true in
    let same : c.outputs.result.now ≡ outputs_at c.loop-place.place c.args.log.now =
    c.outputs.ensures ∙ c.requires.by.each c.loop-place.place below in
    subst (λ (outputs : List ℕ). All (λ output. output < length (g.S.Simulator.task c.loop-place.sim).chip.outputs) outputs) (sym same)
    (subst (λ (task : Task). All (λ output. output < length task.chip.outputs) (outputs_at c.loop-place.place c.args.log.now))
    (sym c.loop-place.invariant.task)
    (outputs_within (length c.args.pairs.now) (length (g.S.Simulator.task c.args.sim.now).chip.outputs) c.loop-place.place c.args.log.now
    c.requires.log))

pub loop-place-preserved : goal.loop-place-preserved
loop-place-preserved g c =
    let task = g.S.Simulator.task c.args.sim.now in
    let old = c.loop-place.list.items in
    let new = c.pass_with.new.list.items in
    let below = c.loop-place-test.true in
    let same : c.outputs.result.now ≡ outputs_at c.loop-place.place c.args.log.now =
    c.outputs.ensures ∙ c.requires.by.each c.loop-place.place below in
    record {
      task = c.pass_with.ensures.task ∙ c.loop-place.invariant.task;
      room = c.pass_with.ensures.room ∙ c.loop-place.invariant.room;
      passed =
          pass_open task c.args.pairs.now c.args.log.now c.loop-place.place c.pair_at.result.now c.pair_at.ensures
          (λ k d within. (c.requires.log k d within).1) old new c.loop-place.invariant.passed
          (subst (λ (outputs : List ℕ). IsPass task (trits_of c.pair_at.result.now) outputs old new) same
          (subst (λ (given : Task). IsPass given (trits_of c.pair_at.result.now) c.outputs.result.now old new) c.loop-place.invariant.task
          c.pass_with.ensures.passed));
    }
