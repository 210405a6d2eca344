use Rattle.std.proofs.Common.{subst}
use Rattle.ca_view.specs.Linked.{place_in}
use Rattle.ca_sim.specs.Seen.{IsExact}
use Rattle.ca_sim.specs.Simulator.{Simulator}
use Rattle.ca_view.specs.Places.{cell_number}
use Rattle.ca_sim.proofs.Keeping.{kept_is_exact}
use Rattle.ca_sim.proofs.sim.SimNetWaves.exact.Goals as goal

pub returns : goal.returns
returns c =
    subst (λ (sim : Simulator). IsExact sim.seen) c.self.view_is
    (kept_is_exact c.self.inside.chip.now.core c.self.inside.chip.now.ranks (place_in c.self.inside.chip.now.ranks)
    (cell_number c.self.inside.chip.now.chip) c.self.inside.aim c.self.inside.networks c.self.inside.unset c.self.inside.loaded c.self.inside.cells c.self.invariant)
