use Rattle.std.proofs.Common.{◌≡◌, ◌<◌, ◌∙◌, ℕ, List, length, map, refl, sym, ap, subst}
use Rattle.std.proofs.lemmas.List.{length-map}
use Rattle.ca_net.specs.declared.trit.Trit.{Trit}
use Rattle.ca_flat.specs.Chip.{Chip}
use Rattle.ca_benches.specs.Benches.{Joined, task_in, defect_of}
use Rattle.std.specs.List.{All}
use Rattle.ca_credit.specs.Defects.{Task, StandsIn}
use Rattle.ca_benches.specs.Benches.{chip_of_station, IsStationed}
use Rattle.ca_benches.specs.code.Parts.{IsAimedAt}
use Rattle.ca_benches.proofs.BenchLemmas.{station_of, part_of, renewed, same_task, chip_told, defect_told, stands_in_twice}
use Rattle.ca_benches.proofs.benches.BenchesSimulator.aim.Goals as goal

pub get-station-requires : goal.get-station-requires
get-station-requires g c =
    subst (λ (n : ℕ). c.args.place < n) (length-map c.self.inside.stations defect_of)
    (subst (λ (v : Joined). c.args.place < length v.defects) (sym c.self.view_is) c.requires)

pub aim_at-requires : goal.aim_at-requires
aim_at-requires g c =
    subst (λ (tasks : List Task). IsStationed tasks c.get-station.result) (sym c.leave.ensures.tasks)
    (station_of _ c.self.inside.stations c.args.place c.get-station.result c.self.invariant.stationed c.get-station.ensures)

pub invariant_of-self : goal.invariant_of-self
invariant_of-self g c =
    let inside = c.self.inside in
    let station = c.get-station.result in
    renewed _ _ _ _ _ _ _ _ _ c.self.invariant _ _ _ _ _ _ _ refl (c.aim_at.ensures.tasks ∙ c.leave.ensures.tasks)
    (subst (All (λ (own : List Trit). own ≡ (g.B.Simulator.bits inside.good))) (sym (c.aim_at.ensures.bits ∙ c.leave.ensures.bits)) c.self.invariant.parts_have) (
      station_of _ inside.stations c.args.place station c.self.invariant.stationed c.get-station.ensures,
      subst (λ (tasks : List Task). IsAimedAt tasks (map g.B.Simulator.aimed c.aim_at.new.parts.items) (map g.B.Simulator.aimed_in c.aim_at.new.parts.items) station) c.leave.ensures.tasks c.aim_at.ensures.aimed,
    )

pub returns-clause-aimed : goal.returns-clause-aimed
returns-clause-aimed g c =
    let inside = c.self.inside in
    defect_told g.B.Simulator.task g.B.Simulator.bits inside.good inside.parts.items inside.stations (g.B.Simulator.bits inside.good) _ inside.aim _ _
    c.self.invariant c.args.self.now (ap task_in c.self.view_is) (ap (λ (v : Joined). v.bits) c.self.view_is) c.args.place
    c.get-station.result c.get-station.ensures

pub returns-clause-aimed_in : goal.returns-clause-aimed_in
returns-clause-aimed_in g c =
    let inside = c.self.inside in
    ap (λ (tasks : List Task). chip_of_station tasks c.get-station.result) (c.aim_at.ensures.tasks ∙ c.leave.ensures.tasks)
    ∙ chip_told g.B.Simulator.task g.B.Simulator.bits inside.good inside.parts.items inside.stations (g.B.Simulator.bits inside.good) _ inside.aim _ _
    c.self.invariant c.args.self.now (ap task_in c.self.view_is) (ap (λ (v : Joined). v.bits) c.self.view_is) c.args.place
    c.get-station.result c.get-station.ensures

pub returns-clause-stands_in : goal.returns-clause-stands_in
returns-clause-stands_in g c =
    let inside = c.self.inside in
    let station = c.get-station.result in
    let stationed = station_of _ inside.stations c.args.place station c.self.invariant.stationed c.get-station.ensures in
    let there = subst (λ (tasks : List Task). IsAimedAt tasks (map g.B.Simulator.aimed c.aim_at.new.parts.items) (map g.B.Simulator.aimed_in c.aim_at.new.parts.items) station) c.leave.ensures.tasks c.aim_at.ensures.aimed in
    subst (λ (chip : Chip). StandsIn c.args.self.now.chip chip)
    (chip_told g.B.Simulator.task g.B.Simulator.bits inside.good inside.parts.items inside.stations (g.B.Simulator.bits inside.good) _ inside.aim _ _
    c.self.invariant c.args.self.now (ap task_in c.self.view_is) (ap (λ (v : Joined). v.bits) c.self.view_is) c.args.place station c.get-station.ensures)
    (subst (λ (v : Joined). StandsIn v.chip (chip_of_station (map g.B.Simulator.task inside.parts.items) station)) c.self.view_is
    (stands_in_twice _ _ _ (part_of _ _ _ _ _ _ _ _ _ c.self.invariant station stationed).stands_in there.stands_in))

pub returns-clause-task : goal.returns-clause-task
returns-clause-task g c =
    same_task (g.B.Simulator.task c.self.inside.good) _ (map g.B.Simulator.task c.self.inside.parts.items) _ c.self.inside.stations refl
    (c.aim_at.ensures.tasks ∙ c.leave.ensures.tasks) ∙ ap task_in c.self.view_is
