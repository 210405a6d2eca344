use Rattle.std.proofs.Common.{◌+◌, ◌∙◌, ◌<◌, length, subst, sym, arith}
use Rattle.ca_generate.specs.code.Progress.{IsScreened}
use Rattle.ca_generate.proofs.ScreenLemmas.{screened_open, screened_closed}
use Rattle.ca_generate.proofs.work.screen.Goals.{then-not-is_exposable, else-not-is_exposable}
use Rattle.ca_generate.proofs.work.screen.Goals as goal

pub loop-place-preserved : goal.loop-place-preserved
loop-place-preserved g c =
    let task = g.B.Simulator.task c.args.bench.now in
    let within : c.loop-place.place < length c.loop-place.credits =
    let many = c.loop-place.invariant.as_many in let test = c.loop-place-test.true in let count = c.defect_count-count.ensures in omega arith in
    elim c.if-not-is_exposable.branch [
      | then-not-is_exposable w ↦ screened_closed task c.loop-place.place c.loop-place.credits c.if-not-is_exposable.credits c.loop-place.invariant within
          (w.credits-is ∙ w.settle.ensures) (λ defect at exposed. let is = (c.is_exposable.ensures defect at).1 exposed in let not = w.if-not-is_exposable.true in cc)
      | else-not-is_exposable w ↦ subst (IsScreened task (c.loop-place.place + 1)) (sym w.credits-is)
          (screened_open task c.loop-place.place c.loop-place.credits c.loop-place.invariant
          (λ defect at. (c.is_exposable.ensures defect at).0 w.if-not-is_exposable.false))
    ]
