-- The room for the networks of a cell.
use Rattle.std.specs.Prelude.{List, IsSome, IsNone, Option, None, Some}
use Rattle.ca_net.specs.declared.wave.Wave.{Wave}
use Rattle.ca_cell.specs.declared.raw.RawCell.{RawCell}
use Rattle.ca_cell.specs.Raw.{circuit_of}
use Rattle.ca_cell.specs.declared.defect.Defect.{Defect}
use Rattle.ca_cell.specs.Defect.{new_node}
use Rattle.ca_cell.specs.List.{faulty_of}
use Rattle.ca_settle.specs.Settled.{IsRoomFor}
use Rattle.ca_response.specs.Table.{IsTableOf}
use Rattle.ca_response.specs.declared.rooms.Rooms.{Rooms}

-- the table, if there is one, is that of the cell without a defect
abbrev pub IsTableOfCell : RawCell → Option (List (List Wave)) → Type 0
IsTableOfCell raw None = Unit {0}
IsTableOfCell raw (Some table) = IsTableOf raw (circuit_of raw) table

-- there is room for the cell, for the cell with any defect that adds a node, and for the cell with any that
-- adds none; and the table is the cell's
pub record AreRoomsOf (raw : RawCell) (rooms : Rooms) : Type 0 where
  pub good : IsRoomFor (circuit_of raw) rooms.good
  pub open_cell : (defect : Defect) → IsSome (new_node defect)
      → IsRoomFor (faulty_of raw defect) rooms.open_cell
  pub shorted : (defect : Defect) → IsNone (new_node defect) → IsRoomFor (faulty_of raw defect) rooms.shorted
  pub table : IsTableOfCell raw rooms.table
