-- The lines that report the work of a command on one cell.
use Rattle.std.specs.Prelude.{ℕ, ◌≡◌, List, ◌∷◌, ◌++◌, length, codes, decimal}
use Rattle.ca_net.specs.Trit.{letter_of}
use Rattle.ca_matrix.specs.Matrix.{Entries, shape_of, record_count}
use Rattle.ca_matrix.specs.Showing.{IsNumberOf, IsShownDefect}
use Rattle.ca_on_cell.specs.declared.pin_values.PinValue.{PinValue}

-- the pin's name, an equals sign, the letter of its value and a line feed
abbrev pub line_of_pin : PinValue → List ℕ
line_of_pin value = value.pin ++ (codes "=" ++ (letter_of value.value ∷ codes "\n"))

-- a name and a line feed
abbrev pub line_of_name : List ℕ → List ℕ
line_of_name name = name ++ codes "\n"

-- the numbers of defects, of those that are exposable, and of records
abbrev pub summary_text : ℕ → ℕ → ℕ → List ℕ
summary_text defects exposable records =
    codes "defects " ++ (decimal defects
    ++ (codes ", exposable " ++ (decimal exposable ++ (codes ", rows " ++ (decimal records ++ codes "\n")))))

-- the line that reports how many defects a matrix has, how many of them some row shows, and how many records
-- its text has after the header
pub record IsSummary (matrix : Entries) (text : List ℕ) : Type 0 where
  pub exposable : ℕ
  pub counted : IsNumberOf (IsShownDefect matrix) exposable
  pub is : text ≡ summary_text (length matrix.defects) exposable (record_count (shape_of matrix))
