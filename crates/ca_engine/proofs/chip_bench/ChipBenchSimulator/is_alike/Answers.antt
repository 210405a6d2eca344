use Rattle.std.proofs.Common.{◌≡◌, ◌<◌, length, Some, refl, sym, subst}
use Rattle.std.specs.Prelude.{slice_get}
use Rattle.ca_view.specs.Linked.{place_in}
use Rattle.ca_sim.specs.Seen.{IsExact, aimed_anew}
use Rattle.ca_credit.specs.Defects.{IsDefectAt}
use Rattle.ca_credit.specs.Detection.{AreDetectedAlike}
use Rattle.ca_engine.specs.ChipBench.{Benched, task_in}
use Rattle.ca_engine.proofs.BenchLemmas.{same_entry, placed_at, alike_detects}
use Rattle.ca_engine.proofs.chip_bench.ChipBenchSimulator.is_alike.Goals as goal

pub returns-clause-same_chip : goal.returns-clause-same_chip
returns-clause-same_chip g c = λ granted. refl

pub returns-clause-alike : goal.returns-clause-alike
returns-clause-alike g c one other aimed at granted =
    let inside = c.self.inside in
    let seen = inside.judge.seen in
    let at_inside : slice_get inside.defects.list c.args.place ≡ Some other =
    subst (λ (bench : Benched). IsDefectAt (task_in bench) c.args.place other) (sym c.self.view_is) at in
    let aimed_inside : seen.aim ≡ Some one =
    subst (λ (bench : Benched). bench.aimed ≡ Some one) (sym c.self.view_is) aimed in
    let within : c.args.place < length inside.defects.list =
    subst (λ (bench : Benched). c.args.place < length bench.defects) (sym c.self.view_is) c.requires in
    let same = same_entry inside.defects.list c.args.place c.get.result other c.get.ensures at_inside in
    let placed = placed_at seen.chip (place_in seen.places) inside.defects.list c.args.place other c.self.invariant.placed within at_inside in
    let alike = subst (λ d. IsExact (aimed_anew seen d)) same (c.is_alike.ensures.alike granted) in
    subst (λ (bench : Benched). AreDetectedAlike bench.chip one other bench.bits) c.self.view_is
    (alike_detects seen _ inside.defects inside.view.now.core.outputs inside.aim c.self.invariant other placed.defect_is
    c.definite_last_is_end.ensures c.exact.ensures alike one aimed_inside)
