-- Static cells: what they end with depends on the last vector of their input pins alone.
use Rattle.std.specs.Prelude.{ℕ, ◌+◌, ◌<◌, List, []}
use Rattle.ca_net.specs.declared.trit.Trit.{Trit}
use Rattle.ca_cell.specs.declared.raw.RawCell.{RawCell}
use Rattle.ca_cell.specs.Raw.{is_input, is_output, role_count, circuit_of}
use Rattle.ca_cell.specs.Exposes.{IsDefiniteVector, CellEndsAt}

-- the node of an output pin of the cell: it comes after power, ground and the input pins
abbrev pub node_of_output : RawCell → ℕ → ℕ
node_of_output raw output = 2 + role_count is_input raw.pins + output

-- Whatever the input pins had before, every run of the cell that ends with the vector at them ends with v at
-- the output pin. The first vector, which has no entry, gives X to each pin.
abbrev pub EndsByLast : RawCell → List Trit → ℕ → Trit → Type 0
EndsByLast raw vector output v = CellEndsAt (circuit_of raw) [] vector (node_of_output raw output) v

-- the value that the cell so ends with
pub record LastEnd (raw : RawCell) (vector : List Trit) (output : ℕ) : Type 0 where
  pub value : Trit
  pub ends : EndsByLast raw vector output value

-- for each definite vector, and at each output pin, the cell ends with a value by the last vector alone
abbrev pub IsStatic : RawCell → Type 0
IsStatic raw =
    (vector : List Trit) → IsDefiniteVector raw vector → (output : ℕ) → output < role_count is_output raw.pins
    → LastEnd raw vector output
