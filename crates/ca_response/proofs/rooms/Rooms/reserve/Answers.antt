use Rattle.std.proofs.Common.{sym, subst}
use Rattle.ca_cell.specs.Raw.{circuit_of}
use Rattle.ca_settle.specs.Settled.{IsRoomFor}
use Rattle.ca_response.proofs.RoomLemmas.{are_rooms}
use Rattle.ca_response.proofs.rooms.Rooms.reserve.Goals as goal

pub returns : goal.returns
returns c =
    are_rooms c.args.cell.now c.node_count-nodes.result c.device_count-devices.result _ _ _ c.in_ok-table.table c.node_count-nodes.ensures.count
    c.device_count-devices.ensures.count (subst (IsRoomFor (circuit_of c.args.cell.now)) (sym c.good.view_is) c.in_ok-table.ensures.room)
    c.in_ok-reserve.ensures.ok c.in_ok-reserve-2.ensures.ok c.in_ok-table.ensures.ok
