-- Words of the code beside those of `specs/Single.antt`. Private functions and proofs cite them.
use Rattle.std.specs.Prelude.{ℕ, ◌+◌, ◌*◌, ◌^◌, ◌≡◌, ◌≢◌, ◌<◌, List, Contains, Some, slice_get}
use Rattle.ca_net.specs.declared.trit.Trit.TheVariants.{X}
use Rattle.ca_net.specs.declared.wave.Wave.{Wave}
use Rattle.ca_net.specs.Circuit.{Circuit}
use Rattle.ca_cell.specs.declared.raw.RawCell.{RawCell}
use Rattle.ca_cell.specs.Raw.{is_input, role_count}
use Rattle.ca_cell.specs.declared.defect.Defect.{Defect}
use Rattle.ca_cell.specs.declared.row.Row.{Row}
use Rattle.ca_cell.specs.Row.{vector_of}
use Rattle.ca_cell.specs.Exposes.{opposite_of, IsExposingRow}
use Rattle.ca_response.specs.Outputs.{AreEndsOf}

-- the number of a row, where there are this many vectors
abbrev pub row_number : RawCell → Row → ℕ
row_number raw row = row.first * 2 ^ role_count is_input raw.pins + row.last

-- these are the rows that do, of the first `count`
pub record AreFound (raw : RawCell) (defect : Defect) (count : ℕ) (rows : List Row) : Type 0 where
  pub contained : (row : Row) → Contains rows row
      → IsExposingRow raw defect row × (row_number raw row < count)
  pub contains : (row : Row) → IsExposingRow raw defect row → row_number raw row < count → Contains rows row

-- the lasts of the waves are what every run ends with at the output pins for a row
abbrev pub AreRowEnds : RawCell → Circuit → ℕ → ℕ → List Wave → Type 0
AreRowEnds raw net first last waves =
    AreEndsOf raw net (vector_of (role_count is_input raw.pins) first)
    (vector_of (role_count is_input raw.pins) last) waves

-- at this output the first waves end with 0 or 1, and the second with the opposite
pub record DifferAt (good faulty : List Wave) (output : ℕ) : Type 0 where
  pub wave : Wave
  pub other : Wave
  pub at : slice_get good output ≡ Some wave
  pub at_other : slice_get faulty output ≡ Some other
  pub definite : wave.last ≢ X
  pub opposite : other.last ≡ opposite_of wave.last

-- at some output
abbrev pub DifferSomewhere : List Wave → List Wave → Type 0
DifferSomewhere good faulty = (output : ℕ) × DifferAt good faulty output
