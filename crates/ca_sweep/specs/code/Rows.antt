-- What only proofs of code cite: what the defects of a cell end with, as codes, and rows that are kept.
use Rattle.std.specs.Prelude.{ℕ, ◌+◌, ◌*◌, ◌/◌, ◌%◌, ◌≡◌, ◌≢◌, ◌<◌, ◌≤◌, ◌↔◌, true, List, [], length}
use Rattle.std.specs.Prelude.{slice_get, slice_index, slice_index_or, Option, None, Some}
use Rattle.std.specs.List.{All}
use Rattle.ca_net.specs.declared.trit.Trit.{Trit}
use Rattle.ca_net.specs.declared.trit.Trit.TheVariants.{X}
use Rattle.ca_net.specs.declared.wave.Wave.{Wave}
use Rattle.ca_cell.specs.declared.raw.RawCell.{RawCell}
use Rattle.ca_cell.specs.declared.defect.Defect.{Defect}
use Rattle.ca_cell.specs.List.{faulty_of, defects_of, IsDefectOf}
use Rattle.ca_response.specs.Gives.{Gives, wave_at}
use Rattle.ca_flat.specs.Chip.{Chip, cell_at, count_of, outputs_at, output_net}
use Rattle.ca_flips.specs.Flips.{IsOpposite}
use Rattle.ca_view.specs.Linked.{IsPlaced}
use Rattle.ca_sweep.specs.declared.row.Row.{Row}
use Rattle.ca_sweep.specs.declared.rows.Rows.{Rows}
use Rattle.ca_sweep.specs.declared.codes.Goods.{Goods}
use Rattle.ca_sweep.specs.declared.seen.Flips.{Flips}
use Rattle.ca_sweep.specs.code.Digits.{digit_of, trit_of}
use Rattle.ca_sweep.specs.code.Loud.{AreLoud}

-- the last values of the first two waves as a number
abbrev pub code_of_lasts : List Wave → ℕ
code_of_lasts outputs = digit_of (wave_at outputs 0).last + 4 * digit_of (wave_at outputs 1).last

-- the code is that of what the cell gives with the defect
pub record IsCoded (raw : RawCell) (defect : Defect) (pins : List Wave) (code : ℕ) : Type 0 where
  pub outputs : List Wave
  pub gives : Gives raw (faulty_of raw defect) pins outputs
  pub code_is : code ≡ code_of_lasts outputs

-- so are they for the first defects of a cell
abbrev pub AreCodes : RawCell → List Wave → List ℕ → Type 0
AreCodes raw pins codes = (k : ℕ) (defect : Defect) → k < length codes
    → slice_get (defects_of raw) k ≡ Some defect → IsCoded raw defect pins (slice_index codes k)

-- these are the defects of the cell
pub record IsListOf (raw : RawCell) (list : List Defect) : Type 0 where
  pub is : list ≡ defects_of raw
  pub all : All (IsDefectOf raw) list

-- so is the list for each instance whose cell has the number
abbrev pub FitsList : Chip → (ℕ → ℕ) → (ℕ → ℕ) → ℕ → List Defect → Type 0
FitsList chip place_of number_of number list =
    (u : ℕ) → IsPlaced chip place_of u → number_of u ≡ number → IsListOf (cell_at chip u) list

-- the first `count` numbers have their lists
pub record AreListsTo (chip : Chip) (place_of number_of : ℕ → ℕ) (count : ℕ) (lists : List (List Defect))
    : Type 0 where
  pub room : length lists ≡ count
  pub each : (number : ℕ) → number < count
      → FitsList chip place_of number_of number (slice_index_or lists number [])

-- the cell of each instance with a place has its list
pub record AreLists (chip : Chip) (place_of number_of : ℕ → ℕ) (lists : List (List Defect)) : Type 0 where
  pub room : (u : ℕ) → IsPlaced chip place_of u → number_of u < length lists
  pub each : (u : ℕ) → IsPlaced chip place_of u
      → IsListOf (cell_at chip u) (slice_index_or lists (number_of u) [])

-- a row has the codes of its cell, at each instance with a cell of that number
abbrev pub HoldsRow : Chip → (ℕ → ℕ) → (ℕ → ℕ) → Option Row → Type 0
HoldsRow chip place_of number_of None = Unit {0}
HoldsRow chip place_of number_of (Some row) =
    (u : ℕ) → IsPlaced chip place_of u → number_of u ≡ row.number
    → AreCodes (cell_at chip u) row.pins.items row.codes.items

-- the row is for this cell and these waves
pub record IsRowFor (number : ℕ) (pins : List Wave) (row : Row) : Type 0 where
  pub number_is : row.number ≡ number
  pub pins_are : row.pins.items ≡ pins

-- a slot has the codes of the cell, if it has a row
abbrev pub IsRowOf : RawCell → List Wave → Option Row → Type 0
IsRowOf raw pins None = Unit {0}
IsRowOf raw pins (Some row) = AreCodes raw pins row.codes.items

-- it is that at a place
pub record IsCodeAt (codes : List ℕ) (place code : ℕ) : Type 0 where
  pub within : place < length codes
  pub is : code ≡ slice_index codes place

-- the row of a slot has the code at a place
abbrev pub IsCodeIn : Option Row → ℕ → ℕ → Type 0
IsCodeIn None place code = ⊥
IsCodeIn (Some row) place code = IsCodeAt row.codes.items place code

-- there are this many codes, and this says which of them flip an output pin with these good last values
pub record IsLoudOf (codes : List ℕ) (goods : Goods) (count loud : ℕ) : Type 0 where
  pub within : count ≤ length codes
  pub are : AreLoud codes goods loud

-- so it is in the row of a slot
abbrev pub IsLoudIn : Option Row → Goods → ℕ → ℕ → Type 0
IsLoudIn None goods count loud = ⊥
IsLoudIn (Some row) goods count loud = IsLoudOf row.codes.items goods count loud

-- the numbers of the cells of the instances that have a place
pub record AreNumbers (chip : Chip) (place_of number_of : ℕ → ℕ) (numbers : List ℕ) : Type 0 where
  pub room : length numbers ≡ count_of chip
  pub each : (u : ℕ) → IsPlaced chip place_of u → slice_index numbers u ≡ number_of u

-- the lists and numbers are those of the cells, and what is kept is true
pub record AreRows (chip : Chip) (place_of number_of : ℕ → ℕ) (rows : Rows) : Type 0 where
  pub lists : AreLists chip place_of number_of rows.lists.items
  pub numbers : AreNumbers chip place_of number_of rows.numbers.items
  pub slots : All (HoldsRow chip place_of number_of) rows.slots.items
  pub some : 0 < length rows.slots.items

-- these are the good last values of an instance's output nets
pub record AreGoodsAt (chip : Chip) (goods : ℕ → Trit) (u : ℕ) (ends : Goods) : Type 0 where
  pub first : 0 < outputs_at chip u → ends.first ≡ goods (output_net chip u 0)
  pub second : 1 < outputs_at chip u → ends.second ≡ goods (output_net chip u 1)

-- which of two output pins have the opposite of the good last value, by a code
pub record AreFlipsOfCode (ends : Goods) (code : ℕ) (flips : Flips) : Type 0 where
  pub first : (flips.first ≡ true) ↔ IsOpposite ends.first (trit_of (code % 4))
  pub second : (flips.second ≡ true) ↔ IsOpposite ends.second (trit_of (code / 4))

-- the last values of the first output pins, this many, are definite by a code
pub record IsKnownCode (code outputs : ℕ) : Type 0 where
  pub first : 0 < outputs → trit_of (code % 4) ≢ X
  pub second : 1 < outputs → trit_of (code / 4) ≢ X
