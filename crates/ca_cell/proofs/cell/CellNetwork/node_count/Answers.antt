use Rattle.std.proofs.Common.{subst}
use Rattle.ca_net.specs.Circuit.{IsWellFormed}
use Rattle.ca_cell.specs.Raw.{circuit_of}
use Rattle.ca_cell.proofs.CircuitLemmas.{well_formed}
use Rattle.ca_cell.proofs.cell.CellNetwork.node_count.Goals as goal

pub returns-clause-well_formed : goal.returns-clause-well_formed
returns-clause-well_formed c =
    subst (λ raw. IsWellFormed (circuit_of raw)) c.self.view_is (well_formed c.self.inside.raw c.self.invariant.0 c.self.invariant.1)
