-- The order of the three values (Bryant 1984, ternary values: X stands for a value that isn't known).
use Rattle.std.specs.Prelude.{ℕ, ◌≡◌, ◌⊎◌}
use Rattle.ca_net.specs.declared.trit.Trit.{Trit}
use Rattle.ca_net.specs.declared.trit.Trit.TheVariants.{Zero, One, X}

-- X is below 0 and 1, and each value is below itself; "b is at or above a" says the same
abbrev pub IsBelow : Trit → Trit → Type 0
IsBelow a b = (a ≡ X) ⊎ (a ≡ b)

-- the value of two that are equal, else X
abbrev pub meet_of : Trit → Trit → Trit
meet_of Zero Zero = Zero
meet_of One One = One
meet_of Zero One = X
meet_of Zero X = X
meet_of One Zero = X
meet_of One X = X
meet_of X b = X

-- the letter of a value: 0, 1 or X
abbrev pub letter_of : Trit → ℕ
letter_of Zero = 48
letter_of One = 49
letter_of X = 88
