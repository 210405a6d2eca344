use Rattle.std.proofs.Common.{◌≡◌, Some, sym, subst}
use Rattle.std.specs.Prelude.{slice_get}
use Rattle.ca_flat.specs.Pair.{IsShown}
use Rattle.ca_credit.specs.Defects.{IsDefectAt}
use Rattle.ca_credit.specs.Detection.{IsAllowedByRows}
use Rattle.ca_engine.specs.ChipBench.{Benched, task_in}
use Rattle.ca_engine.proofs.BenchLemmas.{same_entry}
use Rattle.ca_engine.proofs.chip_bench.ChipBenchSimulator.may_detect.Goals as goal

pub returns-clause-undetected : goal.returns-clause-undetected
returns-clause-undetected g c defect at denied =
    let inside = c.self.inside in
    let at_inside : slice_get inside.defects.list c.args.place ≡ Some defect =
    subst (λ (bench : Benched). IsDefectAt (task_in bench) c.args.place defect) (sym c.self.view_is) at in
    let same = same_entry inside.defects.list c.args.place c.get.result defect c.get.ensures at_inside in
    subst (λ (bench : Benched). IsShown bench.chip defect bench.bits → ⊥) c.self.view_is
    (subst (λ d. IsShown inside.judge.seen.chip d inside.judge.seen.pair → ⊥) same
    (c.may_show.ensures.not_shown denied))

pub returns-clause-allowed : goal.returns-clause-allowed
returns-clause-allowed g c defect at granted =
    let inside = c.self.inside in
    let at_inside : slice_get inside.defects.list c.args.place ≡ Some defect =
    subst (λ (bench : Benched). IsDefectAt (task_in bench) c.args.place defect) (sym c.self.view_is) at in
    let same = same_entry inside.defects.list c.args.place c.get.result defect c.get.ensures at_inside in
    subst (λ (bench : Benched). IsAllowedByRows bench.chip defect bench.bits) c.self.view_is
    (subst (λ d. IsAllowedByRows inside.judge.seen.chip d inside.judge.seen.pair) same
    (c.may_show.ensures.allowed granted))
