use Rattle.std.proofs.Common.{subst}
use Rattle.ca_cell.specs.Raw.{circuit_of}
use Rattle.ca_response.specs.Rooms.{IsTableOfCell}
use Rattle.ca_response.proofs.GivesLemmas.{gives}
use Rattle.ca_response.proofs.rooms.Rooms.respond_good.Goals as goal

pub returns-in-Some-clause-gives : goal.returns-in-Some-clause-gives
returns-in-Some-clause-gives c =
    c.get.ensures.gives c.args.cell.now (circuit_of c.args.cell.now) c.requires.pins
    (subst (IsTableOfCell c.args.cell.now) c.in-Some.is c.requires.rooms.table)

pub returns-in-Some-clause-waves : goal.returns-in-Some-clause-waves
returns-in-Some-clause-waves c =
    c.get.ensures.waves c.args.cell.now (circuit_of c.args.cell.now) (subst (IsTableOfCell c.args.cell.now) c.in-Some.is c.requires.rooms.table)

pub returns-in-None-clause-gives : goal.returns-in-None-clause-gives
returns-in-None-clause-gives c = gives _ _ _ _ c.respond.ensures.limits
