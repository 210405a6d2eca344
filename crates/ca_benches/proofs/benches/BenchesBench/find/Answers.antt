use Rattle.std.proofs.Common.{◌≡◌, ◌<◌, ◌∙◌, ℕ, List, length, map, sym, ap, subst}
use Rattle.std.proofs.lemmas.List.{length-map}
use Rattle.std.specs.Prelude.{Option, IfOk}
use Rattle.std.specs.List.{All}
use Rattle.ca_net.specs.declared.trit.Trit.{Trit}
use Rattle.ca_flat.specs.Pair.{bit_count}
use Rattle.ca_credit.specs.Defects.{Task}
use Rattle.ca_generate.specs.Outcome.{IsSearchEnd}
use Rattle.ca_benches.specs.declared.station.Station.{Station}
use Rattle.ca_benches.specs.Benches.{Joined, task_in}
use Rattle.ca_benches.specs.code.Parts.{aimed_of, aimed_chip}
use Rattle.ca_benches.proofs.BenchLemmas.{aim_stationed, searched, sized_for_all, renewed, same_task}
use Rattle.ca_benches.proofs.benches.BenchesBench.find.Goals as goal

pub search_at-end-requires : goal.search_at-end-requires
search_at-end-requires g c =
    subst (λ (n : ℕ). c.in-Some.aim.part < n) (length-map c.self.inside.parts.items g.B.Simulator.task)
    (aim_stationed _ _ _ _ _ _ _ _ _ c.self.invariant c.in-Some.aim c.in-Some.is).within

pub load_all-requires : goal.load_all-requires
load_all-requires g c =
    let rest = c.self.inside.rest in
    subst (All (λ (task : Task). length rest ≡ bit_count task.chip)) (sym c.search_at-end.ensures.tasks)
    (sized_for_all (g.B.Simulator.task c.self.inside.good) _ (length rest) c.self.invariant.parts c.self.invariant.sized)

pub load-requires : goal.load-requires
load-requires g c = c.self.invariant.sized

pub invariant_of-self : goal.invariant_of-self
invariant_of-self g c =
    renewed _ _ _ _ _ _ _ _ _ c.self.invariant _ _ _ _ _ _ _ c.load.ensures.task
    (c.load_all.ensures.tasks ∙ c.search_at-end.ensures.tasks)
    (subst (λ (bits : List Trit). All (λ (own : List Trit). own ≡ bits) (map g.B.Simulator.bits c.load_all.new.parts.items))
    (sym c.load.ensures.bits) c.load_all.ensures.bits) tt

pub returns-clause-searched : goal.returns-clause-searched
returns-clause-searched g c defect aimed =
    let inside = c.self.inside in
    let aim = c.in-Some.aim in
    let end = c.search_at-end.result in
    let tasks = map g.B.Simulator.task inside.parts.items in
    subst (λ (v : Joined). IfOk end (IsSearchEnd v.aimed_in v.budget defect)) c.self.view_is
    (subst (λ (a : Option Station). IfOk end (IsSearchEnd (aimed_chip (g.B.Simulator.task inside.good).chip tasks a)
    (g.B.Simulator.task inside.good).budget defect)) (sym c.in-Some.is)
    (searched _ _ _ _ _ _ _ _ _ c.self.invariant aim c.in-Some.is end defect c.search_at-end.ensures.searched
    (sym (ap aimed_of c.in-Some.is) ∙ ap (λ (v : Joined). v.aimed) c.self.view_is ∙ aimed)))

pub returns-clause-task : goal.returns-clause-task
returns-clause-task g c =
    same_task (g.B.Simulator.task c.self.inside.good) _ (map g.B.Simulator.task c.self.inside.parts.items) _ c.self.inside.stations
    c.load.ensures.task (c.load_all.ensures.tasks ∙ c.search_at-end.ensures.tasks) ∙ ap task_in c.self.view_is
