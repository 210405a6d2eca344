-- Rows by number, 64 to a block, and what a cell ends with in them.
use Rattle.std.specs.Prelude.{ℕ, ◌≡◌, ◌≢◌, ◌/◌, ◌%◌, ◌^◌, ◌<◌, ◌↔◌, List}
use Rattle.ca_net.specs.declared.trit.Trit.{Trit}
use Rattle.ca_net.specs.declared.trit.Trit.TheVariants.{X}
use Rattle.ca_net.specs.declared.wave.Wave.{Wave}
use Rattle.ca_net.specs.Circuit.{Circuit}
use Rattle.ca_net.specs.State.{value_at}
use Rattle.ca_cell.specs.declared.raw.RawCell.{RawCell}
use Rattle.ca_cell.specs.Raw.{is_input, is_output, role_count}
use Rattle.ca_cell.specs.Exposes.{CellEndsAt}
use Rattle.ca_cell.specs.Row.{vector_of}
use Rattle.ca_response.specs.Outputs.{output_node, AreEndsOf}
use Rattle.ca_row_block.specs.declared.room.RowRoom.{RowRoom}
use Rattle.ca_planes.specs.Trits.{state_in}

-- the vectors of the row of a number, over this many input pins
abbrev pub first_of : ℕ → ℕ → List Trit
first_of inputs number = vector_of inputs (number / 2 ^ inputs)

abbrev pub last_of : ℕ → ℕ → List Trit
last_of inputs number = vector_of inputs (number % 2 ^ inputs)

-- the value of a node at the end of the row in a lane
abbrev pub end_at : RowRoom → ℕ → ℕ → Trit
end_at room node lane = value_at (state_in room.work.last lane) node

-- in a lane the room holds what every run of the network ends with at each output pin, for the row of this
-- number
abbrev pub HoldsRow : RawCell → Circuit → ℕ → ℕ → RowRoom → Type 0
HoldsRow raw net number lane room =
    (output : ℕ) (v : Trit) → output < role_count is_output raw.pins
    → ((v ≢ X) × (end_at room (output_node raw output) lane ≡ v))
    ↔ CellEndsAt net (first_of (role_count is_input raw.pins) number)
    (last_of (role_count is_input raw.pins) number) (output_node raw output) v

-- the lasts of the waves are what every run ends with at the output pins for the row of this number
abbrev pub AreRowEnds : RawCell → Circuit → ℕ → List Wave → Type 0
AreRowEnds raw net number waves =
    AreEndsOf raw net (first_of (role_count is_input raw.pins) number)
    (last_of (role_count is_input raw.pins) number) waves
