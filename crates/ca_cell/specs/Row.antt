-- Rows: pairs of vectors as numbers.
use Rattle.std.specs.Prelude.{ℕ, zero, suc, ◌≡◌, ◌<◌, ◌/◌, ◌%◌, ◌^◌, ◌⊎◌, ◌==◌, if◌then◌else◌, List, [], ◌∷◌}
use Rattle.std.specs.Prelude.{AllPairs}
use Rattle.ca_net.specs.declared.trit.Trit.{Trit}
use Rattle.ca_net.specs.declared.trit.Trit.TheVariants.{Zero, One}
use Rattle.ca_cell.specs.declared.row.Row.{Row}

-- the row comes before the other: its first vector is the lower number, or it is the same and the last vector
-- is
abbrev pub IsBefore : Row → Row → Type 0
IsBefore row other = (row.first < other.first) ⊎ ((row.first ≡ other.first) × (row.last < other.last))

-- each row comes before all later ones
abbrev pub IsAscending : List Row → Type 0
IsAscending rows = AllPairs IsBefore rows

-- the value of a digit
abbrev pub digit_value : ℕ → Trit
digit_value digit = if digit == 0 then Zero else One

-- the vector of this many inputs that a number gives: its binary digits, of which the first input has the
-- highest
abbrev pub vector_of : ℕ → ℕ → List Trit
vector_of zero number = []
vector_of (suc after) number = digit_value (number / 2 ^ after % 2) ∷ vector_of after number
