use Rattle.std.proofs.Common.{◌<◌, ◌∙◌, ℕ, List, length, refl, sym, ap, subst}
use Rattle.std.proofs.lemmas.List.{length-map}
use Rattle.ca_net.specs.declared.trit.Trit.{Trit}
use Rattle.ca_flat.specs.declared.chip_defect.ChipDefect.{ChipDefect}
use Rattle.ca_flat.specs.Chip.{Chip}
use Rattle.ca_benches.specs.Benches.{Joined, task_in, defect_of}
use Rattle.ca_credit.specs.Defects.{Task}
use Rattle.ca_credit.specs.Detection.{IsDecided}
use Rattle.ca_benches.specs.code.Parts.{aimed_chip}
use Rattle.ca_benches.proofs.BenchLemmas.{station_of, told, stays, same_task}
use Rattle.ca_benches.proofs.benches.BenchesSimulator.by_lasts.Goals as goal

pub get-station-requires : goal.get-station-requires
get-station-requires g c =
    subst (λ (n : ℕ). c.args.place < n) (length-map c.self.inside.stations defect_of)
    (subst (λ (v : Joined). c.args.place < length v.defects) (sym c.self.view_is) c.requires)

pub lasts_at-requires : goal.lasts_at-requires
lasts_at-requires g c = station_of _ c.self.inside.stations c.args.place c.get-station.result c.self.invariant.stationed c.get-station.ensures

pub returns-clause-decided : goal.returns-clause-decided
returns-clause-decided g c defect at =
    let inside = c.self.inside in
    told g.B.Simulator.task g.B.Simulator.bits inside.good inside.parts.items inside.stations (g.B.Simulator.bits inside.good) _ inside.aim _ _
    c.self.invariant c.args.self.now (ap task_in c.self.view_is) (ap (λ (v : Joined). v.bits) c.self.view_is) c.args.place
    c.get-station.result c.get-station.ensures (λ (chip : Chip) (d : ChipDefect) (bits : List Trit). IsDecided chip d bits c.lasts_at.result)
    defect c.lasts_at.ensures.decided at

pub invariant_of-self : goal.invariant_of-self
invariant_of-self g c =
    stays _ _ _ _ _ _ _ _ _ c.self.invariant _ _ _ _ c.lasts_at.ensures.tasks c.lasts_at.ensures.bits c.lasts_at.ensures.aimed
    c.lasts_at.ensures.aimed_in

pub returns-clause-aimed_in : goal.returns-clause-aimed_in
returns-clause-aimed_in g c =
    let inside = c.self.inside in
    ap (λ (tasks : List Task). aimed_chip (g.B.Simulator.task inside.good).chip tasks inside.aim) c.lasts_at.ensures.tasks
    ∙ ap (λ (v : Joined). v.aimed_in) c.self.view_is

pub returns-clause-task : goal.returns-clause-task
returns-clause-task g c =
    let inside = c.self.inside in
    same_task (g.B.Simulator.task inside.good) (g.B.Simulator.task inside.good) _ _ inside.stations refl c.lasts_at.ensures.tasks
    ∙ ap task_in c.self.view_is
