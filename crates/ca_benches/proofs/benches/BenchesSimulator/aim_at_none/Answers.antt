use Rattle.std.proofs.Common.{◌≡◌, ◌∙◌, List, map, refl, sym, ap, subst}
use Rattle.ca_net.specs.declared.trit.Trit.{Trit}
use Rattle.ca_benches.specs.Benches.{task_in}
use Rattle.std.specs.List.{All}
use Rattle.ca_benches.proofs.BenchLemmas.{renewed, same_task}
use Rattle.ca_benches.proofs.benches.BenchesSimulator.aim_at_none.Goals as goal

pub invariant_of-self : goal.invariant_of-self
invariant_of-self g c =
    let inside = c.self.inside in
    renewed _ _ _ _ _ _ _ _ _ c.self.invariant _ _ _ _ _ _ _ refl c.leave.ensures.tasks
    (subst (All (λ (own : List Trit). own ≡ (g.B.Simulator.bits inside.good))) (sym c.leave.ensures.bits) c.self.invariant.parts_have) tt

pub returns-clause-task : goal.returns-clause-task
returns-clause-task g c = same_task (g.B.Simulator.task c.self.inside.good) _ (map g.B.Simulator.task c.self.inside.parts.items) _ c.self.inside.stations refl
    c.leave.ensures.tasks ∙ ap task_in c.self.view_is
