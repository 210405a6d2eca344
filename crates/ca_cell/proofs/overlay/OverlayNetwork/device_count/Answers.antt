use Rattle.std.proofs.Common.{subst}
use Rattle.ca_net.specs.Circuit.{IsWellFormed}
use Rattle.ca_cell.specs.List.{faulty_of}
use Rattle.ca_cell.specs.Overlay.{Faulty}
use Rattle.ca_cell.proofs.CircuitWithLemmas.{faulty_is_well_formed}
use Rattle.ca_cell.proofs.overlay.OverlayNetwork.device_count.Goals as goal

pub returns-in-Some-clause-well_formed : goal.returns-in-Some-clause-well_formed
returns-in-Some-clause-well_formed c =
    subst (λ (faulty : Faulty). IsWellFormed (faulty_of faulty.raw faulty.defect)) c.self.view_is
    (faulty_is_well_formed c.self.inside.cell.now c.self.inside.defect c.self.invariant)

pub returns-in-None-clause-well_formed : goal.returns-in-None-clause-well_formed
returns-in-None-clause-well_formed c =
    subst (λ (faulty : Faulty). IsWellFormed (faulty_of faulty.raw faulty.defect)) c.self.view_is
    (faulty_is_well_formed c.self.inside.cell.now c.self.inside.defect c.self.invariant)
