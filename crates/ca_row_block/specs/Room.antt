-- The room for 64 rows of a cell's network.
use Rattle.std.specs.Prelude.{ℕ, ◌≡◌, ◌+◌, ◌<◌, length}
use Rattle.ca_net.specs.Circuit.{Circuit}
use Rattle.ca_net.specs.Limits.{IsFirstLimit}
use Rattle.ca_net.specs.Wave.{input_count}
use Rattle.ca_cell.specs.Exposes.{pin_vector}
use Rattle.ca_cell.specs.Row.{vector_of}
use Rattle.ca_planes.specs.Trits.{HasNodes, state_in}
use Rattle.ca_block.specs.Work as work
use Rattle.ca_row_block.specs.declared.room.RowRoom.{RowRoom}
use Rattle.ca_row_block.specs.Masks.{AreMasks}

-- there is room for vectors over this many nodes, and the masks of lanes are there
pub record HasVectors (nodes : ℕ) (room : RowRoom) : Type 0 where
  pub from : HasNodes nodes room.from
  pub to : HasNodes nodes room.to
  pub mask_count : length room.masks.items ≡ 6
  pub masks : AreMasks room.masks.items

-- there is room for networks with this many nodes and devices
pub record IsRoomFor (nodes devices : ℕ) (room : RowRoom) : Type 0 where
  pub vectors : HasVectors nodes room
  pub limits : work.HasRoom nodes devices room.work

-- each lane of the kept first limits is that of the vector of its number
abbrev pub HoldsFirstLimits : Circuit → RowRoom → Type 0
HoldsFirstLimits net room =
    (inputs lane : ℕ) → input_count net.nodes ≡ 2 + inputs → lane < 64
    → IsFirstLimit net (pin_vector net (vector_of inputs lane)) (state_in room.work.firsts lane)

-- there is room for the network, and what is read of it and its first limits are there
pub record HoldsCellNet (net : Circuit) (room : RowRoom) : Type 0 where
  pub vectors : HasVectors (length net.nodes) room
  pub limits : work.HoldsNet net room.work
  pub firsts : HoldsFirstLimits net room
