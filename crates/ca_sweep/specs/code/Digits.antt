-- What only proofs of code cite: values as numbers.
use Rattle.std.specs.Prelude.{ℕ, zero, suc}
use Rattle.ca_net.specs.declared.trit.Trit.{Trit}
use Rattle.ca_net.specs.declared.trit.Trit.TheVariants.{Zero, One, X}

-- a value as a number
abbrev pub digit_of : Trit → ℕ
digit_of Zero = 0
digit_of One = 1
digit_of X = 2

-- the value of a number
abbrev pub trit_of : ℕ → Trit
trit_of zero = Zero
trit_of (suc zero) = One
trit_of (suc (suc more)) = X
