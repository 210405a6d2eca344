-- When a pair of vectors exposes a defect of a cell (after Hapke and others 2014; by runs of the network in
-- place of voltages).
use Rattle.std.specs.Prelude.{ℕ, ◌≡◌, ◌≢◌, ◌<◌, ◌≤◌, ◌+◌, ◌^◌, List, ◌∷◌, length, All}
use Rattle.ca_net.specs.declared.trit.Trit.{Trit}
use Rattle.ca_net.specs.declared.trit.Trit.TheVariants.{Zero, One, X}
use Rattle.ca_net.specs.Circuit.{Circuit}
use Rattle.ca_net.specs.Wave.{at_inputs}
use Rattle.ca_net.specs.PairRun.{EndsAt}
use Rattle.ca_cell.specs.declared.raw.RawCell.{RawCell}
use Rattle.ca_cell.specs.Raw.{is_input, is_output, role_count, circuit_of}
use Rattle.ca_cell.specs.declared.defect.Defect.{Defect}
use Rattle.ca_cell.specs.declared.row.Row.{Row}
use Rattle.ca_cell.specs.List.{faulty_of}
use Rattle.ca_cell.specs.Row.{vector_of}

-- 0 for 1, 1 for 0
abbrev pub opposite_of : Trit → Trit
opposite_of Zero = One
opposite_of One = Zero
opposite_of X = X

-- one definite value per input pin
pub record IsDefiniteVector (raw : RawCell) (vector : List Trit) : Type 0 where
  pub count : length vector ≡ role_count is_input raw.pins
  pub definite : All (λ value. value ≢ X) vector

-- a vector over a cell's input pins as one over the nodes of its network: power is 1 and ground 0
abbrev pub pin_vector : Circuit → List Trit → List Trit
pin_vector net vector = at_inputs net.nodes (One ∷ Zero ∷ vector)

-- every run of the cell's network for the two vectors over its input pins ends with v at the node
abbrev pub CellEndsAt : Circuit → List Trit → List Trit → ℕ → Trit → Type 0
CellEndsAt net first last n v = EndsAt net (pin_vector net first) (pin_vector net last) n v

-- the node is that of an output pin
abbrev pub IsOutputPin : RawCell → ℕ → Type 0
IsOutputPin raw n =
    (2 + role_count is_input raw.pins ≤ n)
    × (n < 2 + role_count is_input raw.pins + role_count is_output raw.pins)

-- at some output pin the good cell ends with a value and the cell with the defect with the opposite one
pub record Exposes (raw : RawCell) (defect : Defect) (first last : List Trit) : Type 0 where
  pub first_definite : IsDefiniteVector raw first
  pub last_definite : IsDefiniteVector raw last
  pub output : ℕ
  pub is_output : IsOutputPin raw output
  pub value : Trit
  pub good : CellEndsAt (circuit_of raw) first last output value
  pub faulty : CellEndsAt (faulty_of raw defect) first last output (opposite_of value)

-- some pair of definite vectors exposes the defect
abbrev pub IsExposable : RawCell → Defect → Type 0
IsExposable raw defect = (first : List Trit) × (last : List Trit) × Exposes raw defect first last

-- the row is a pair of the cell's vectors that exposes the defect
pub record IsExposingRow (raw : RawCell) (defect : Defect) (row : Row) : Type 0 where
  pub first_within : row.first < 2 ^ role_count is_input raw.pins
  pub last_within : row.last < 2 ^ role_count is_input raw.pins
  pub exposes : Exposes raw defect (vector_of (role_count is_input raw.pins) row.first)
      (vector_of (role_count is_input raw.pins) row.last)
