use Rattle.std.proofs.Common.{subst}
use Rattle.ca_cell.specs.List.{faulty_of}
use Rattle.ca_cell.specs.Overlay.{Faulty}
use Rattle.ca_response.specs.Gives.{Gives}
use Rattle.ca_response.proofs.GivesLemmas.{gives}
use Rattle.ca_response.proofs.rooms.Rooms.respond_faulty.Goals as goal

pub returns-in-Some-clause-gives : goal.returns-in-Some-clause-gives
returns-in-Some-clause-gives c =
    subst (λ (faulty : Faulty). Gives faulty.raw (faulty_of faulty.raw faulty.defect) c.args.pins.now c.respond.result.items) c.new-overlay.ensures
    (gives _ _ _ _ c.respond.ensures.limits)

pub returns-in-None-clause-gives : goal.returns-in-None-clause-gives
returns-in-None-clause-gives c =
    subst (λ (faulty : Faulty). Gives faulty.raw (faulty_of faulty.raw faulty.defect) c.args.pins.now c.respond-in-None.result.items) c.new-overlay.ensures
    (gives _ _ _ _ c.respond-in-None.ensures.limits)
