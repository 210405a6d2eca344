use Rattle.std.proofs.Common.{◌≡◌, ◌∙◌, List, length, map, sym, ap, subst}
use Rattle.ca_net.specs.declared.trit.Trit.{Trit}
use Rattle.ca_benches.specs.Benches.{Joined, task_in}
use Rattle.std.specs.List.{All}
use Rattle.ca_credit.specs.Defects.{Task}
use Rattle.ca_flat.specs.Pair.{bit_count}
use Rattle.ca_benches.specs.code.Parts.{aimed_chip}
use Rattle.ca_benches.proofs.BenchLemmas.{sized_for_all, renewed, aim_stays, same_task}
use Rattle.ca_benches.proofs.benches.BenchesSimulator.load.Goals as goal

pub load-requires : goal.load-requires
load-requires g c = subst (λ (v : Joined). length c.args.pair.now ≡ bit_count v.chip) (sym c.self.view_is) c.requires

pub load_all-requires : goal.load_all-requires
load_all-requires g c =
    sized_for_all (g.B.Simulator.task c.self.inside.good) (map g.B.Simulator.task c.self.inside.parts.items) (length c.args.pair.now)
    c.self.invariant.parts (subst (λ (v : Joined). length c.args.pair.now ≡ bit_count v.chip) (sym c.self.view_is) c.requires)

pub invariant_of-self : goal.invariant_of-self
invariant_of-self g c =
    let inside = c.self.inside in
    renewed _ _ _ _ _ _ _ _ _ c.self.invariant _ _ _ _ _ _ _ c.load.ensures.task c.load_all.ensures.tasks
    (subst (λ (bits : List Trit). All (λ (own : List Trit). own ≡ bits) (map g.B.Simulator.bits c.load_all.new.parts.items))
    (sym c.load.ensures.bits) c.load_all.ensures.bits)
    (aim_stays _ _ _ _ _ inside.aim c.load_all.ensures.aimed c.load_all.ensures.aimed_in c.self.invariant.aimed)

pub returns-clause-aimed_in : goal.returns-clause-aimed_in
returns-clause-aimed_in g c =
    let inside = c.self.inside in
    ap (λ (task : Task). aimed_chip task.chip (map g.B.Simulator.task c.load_all.new.parts.items) inside.aim) c.load.ensures.task
    ∙ ap (λ (tasks : List Task). aimed_chip (g.B.Simulator.task inside.good).chip tasks inside.aim) c.load_all.ensures.tasks
    ∙ ap (λ (v : Joined). v.aimed_in) c.self.view_is

pub returns-clause-task : goal.returns-clause-task
returns-clause-task g c =
    same_task (g.B.Simulator.task c.self.inside.good) _ (map g.B.Simulator.task c.self.inside.parts.items) _ c.self.inside.stations c.load.ensures.task c.load_all.ensures.tasks ∙ ap task_in c.self.view_is
