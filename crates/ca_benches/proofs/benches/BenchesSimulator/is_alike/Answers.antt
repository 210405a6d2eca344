use Rattle.std.proofs.Common.{◌<◌, ◌∙◌, ℕ, List, length, refl, sym, ap, subst}
use Rattle.std.proofs.lemmas.List.{length-map}
use Rattle.ca_flat.specs.Chip.{Chip}
use Rattle.ca_benches.specs.Benches.{Joined, task_in, defect_of}
use Rattle.ca_credit.specs.Defects.{Task}
use Rattle.ca_credit.specs.Detection.{AreDetectedAlike}
use Rattle.ca_benches.specs.code.Parts.{aimed_chip}
use Rattle.ca_benches.proofs.BenchLemmas.{station_of, chip_alike, told_alike, stays, same_task}
use Rattle.ca_benches.proofs.benches.BenchesSimulator.is_alike.Goals as goal

pub get-station-requires : goal.get-station-requires
get-station-requires g c =
    subst (λ (n : ℕ). c.args.place < n) (length-map c.self.inside.stations defect_of)
    (subst (λ (v : Joined). c.args.place < length v.defects) (sym c.self.view_is) c.requires)

pub alike_at-requires : goal.alike_at-requires
alike_at-requires g c = station_of _ c.self.inside.stations c.args.place c.get-station.result c.self.invariant.stationed c.get-station.ensures

pub returns-clause-same_chip : goal.returns-clause-same_chip
returns-clause-same_chip g c granted =
    let inside = c.self.inside in
    chip_alike g.B.Simulator.task g.B.Simulator.bits inside.good inside.parts.items inside.stations (g.B.Simulator.bits inside.good) _ inside.aim _ _
    c.self.invariant c.args.self.now (ap task_in c.self.view_is) (ap (λ (v : Joined). v.bits) c.self.view_is) c.args.place
    c.get-station.result c.get-station.ensures c.in-Some.aim c.in-Some.is c.if-aim-station.false (c.alike_at.ensures.same_chip granted)
    ∙ ap (λ (v : Joined). v.aimed_in) c.self.view_is

pub returns-clause-alike : goal.returns-clause-alike
returns-clause-alike g c one other aimed at granted =
    let inside = c.self.inside in
    subst (λ (chip : Chip). AreDetectedAlike chip one other c.args.self.now.bits) (ap (λ (v : Joined). v.aimed_in) c.self.view_is)
    (told_alike g.B.Simulator.task g.B.Simulator.bits inside.good inside.parts.items inside.stations (g.B.Simulator.bits inside.good) _ inside.aim _ _
    c.self.invariant c.args.self.now (ap task_in c.self.view_is) (ap (λ (v : Joined). v.bits) c.self.view_is) c.args.place
    c.get-station.result c.get-station.ensures c.in-Some.aim c.in-Some.is c.if-aim-station.false one other
    (λ first is. c.alike_at.ensures.alike first is granted) (ap (λ (v : Joined). v.aimed) c.self.view_is ∙ aimed) at)

pub invariant_of-self : goal.invariant_of-self
invariant_of-self g c =
    stays _ _ _ _ _ _ _ _ _ c.self.invariant _ _ _ _ c.alike_at.ensures.tasks c.alike_at.ensures.bits c.alike_at.ensures.aimed
    c.alike_at.ensures.aimed_in

pub returns-clause-aimed_in : goal.returns-clause-aimed_in
returns-clause-aimed_in g c =
    let inside = c.self.inside in
    ap (λ (tasks : List Task). aimed_chip (g.B.Simulator.task inside.good).chip tasks inside.aim) c.alike_at.ensures.tasks
    ∙ ap (λ (v : Joined). v.aimed_in) c.self.view_is

pub returns-clause-task : goal.returns-clause-task
returns-clause-task g c =
    let inside = c.self.inside in
    same_task (g.B.Simulator.task inside.good) (g.B.Simulator.task inside.good) _ _ inside.stations refl c.alike_at.ensures.tasks
    ∙ ap task_in c.self.view_is
