-- What the text of a strength table reads as: its ratios, one after another, up to the first record that
-- breaks the form.
use Rattle.std.specs.Prelude.{ℕ, zero, suc, nat_lt, ◌≡◌, ◌+◌, ◌*◌, Bool, true, false, ◌&&◌, List, [], ◌∷◌}
use Rattle.std.specs.Prelude.{◌++◌, length, Option, Some, None, Result, Ok, Err, codes, decimal}
use Rattle.std.specs.Prelude.{if◌then◌else◌}
use Rattle.std.specs.List.{list_all}
use Rattle.std.specs.Str.{bytes_eq}
use Rattle.ca_csv.specs.Records.{text_records}
use Rattle.ca_cell.specs.declared.strength.Ratio.{Ratio}
use Rattle.ca_cell.specs.declared.strength.StrengthTable.{StrengthTable}
use Rattle.ca_strengths.specs.declared.number.TheConstants.{MOST_NUMBER}
use Rattle.ca_strengths.specs.declared.fault.StrengthFault.{StrengthFault}
use Rattle.ca_strengths.specs.declared.fault.StrengthFault.TheVariants as fault

-- the first record is `width,length`, letter by letter
unfoldable pub is_header : List (List ℕ) → Bool
is_header [] = false
is_header (width ∷ []) = false
is_header (width ∷ length ∷ []) = bytes_eq width (codes "width") && bytes_eq length (codes "length")
is_header (width ∷ length ∷ more ∷ others) = false

-- the number from 1 to `most` of which these are the decimal digits, without a sign or a leading zero
unfoldable pub number_up_to : ℕ → List ℕ → Option ℕ
number_up_to zero digits = None
number_up_to (suc most) digits =
    if bytes_eq digits (decimal (suc most)) then Some (suc most) else number_up_to most digits

-- the ratio of these digits: a width and a length, each from 1 to 1,000,000
abbrev pub ratio_with : List ℕ → List ℕ → Option Ratio
ratio_with width length = elim (number_up_to MOST_NUMBER width) [
  | None ↦ None
  | Some over ↦ elim (number_up_to MOST_NUMBER length) [
    | None ↦ None
    | Some under ↦ Some (record { width = over; length = under })
  ]
]

-- the ratio that a record is; none where it hasn't two fields
unfoldable pub ratio_in : List (List ℕ) → Option Ratio
ratio_in [] = None
ratio_in (width ∷ []) = None
ratio_in (width ∷ length ∷ []) = ratio_with width length
ratio_in (width ∷ length ∷ more ∷ others) = None

-- a ratio is greater than another one
abbrev pub is_above : Ratio → Ratio → Bool
is_above ratio other = nat_lt (other.width * ratio.length) (ratio.width * other.length)

-- a ratio may follow those before it: they are fewer than five, and it is greater than each
abbrev pub may_follow : List Ratio → Ratio → Bool
may_follow ratios ratio = nat_lt (length ratios) 5 && list_all (is_above ratio) ratios

-- the ratios with the one of these fields, where it may follow them
unfoldable pub with_fields : List Ratio → List (List ℕ) → Option (List Ratio)
with_fields ratios fields = elim (ratio_in fields) [
  | None ↦ None
  | Some ratio ↦ if may_follow ratios ratio then Some (ratios ++ ratio ∷ []) else None
]

-- the table of five ratios
unfoldable pub table_with : List Ratio → Option StrengthTable
table_with (first ∷ second ∷ third ∷ fourth ∷ fifth ∷ []) =
    Some (record { first = first; second = second; third = third; fourth = fourth; fifth = fifth })
table_with _ = None

-- the table of the ratios and of these records, of which the first has this number; or the number of the
-- first that breaks the form, or that is missing
unfoldable pub ratios_from : ℕ → List Ratio → List (List (List ℕ)) → Result StrengthTable ℕ
ratios_from row ratios [] = elim (table_with ratios) [ None ↦ Err row | Some table ↦ Ok table ]
ratios_from row ratios (fields ∷ records) = elim (with_fields ratios fields) [
  | None ↦ Err row
  | Some more ↦ ratios_from (row + 1) more records
]

-- the table that the records of a text are, or the number of the first that breaks the form, counted from 1
unfoldable pub strengths_with : List (List (List ℕ)) → Result StrengthTable ℕ
strengths_with [] = Err 1
strengths_with (fields ∷ records) = if is_header fields then ratios_from 2 [] records else Err 1

-- the table that a text is, or its first record that breaks the form
abbrev pub strengths_of : List ℕ → Result StrengthTable ℕ
strengths_of text = strengths_with (text_records text)

-- what the code answers: the table that the text reads as, or its first record that breaks the form; out of
-- memory is always allowed
abbrev pub Reads : Result StrengthTable StrengthFault → Result StrengthTable ℕ → Type 0
Reads (Ok table) wanted = wanted ≡ Ok table
Reads (Err (fault.BadStrengthRow row)) wanted = wanted ≡ Err row
Reads (Err fault.NoMemory) wanted = Unit {0}

-- each ratio is greater than the one before it
pub record IsAscending (table : StrengthTable) : Type 0 where
  pub second : is_above table.second table.first ≡ true
  pub third : is_above table.third table.second ≡ true
  pub fourth : is_above table.fourth table.third ≡ true
  pub fifth : is_above table.fifth table.fourth ≡ true
