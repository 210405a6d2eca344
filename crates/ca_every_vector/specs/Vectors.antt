-- Partial pairs of which one vector is set, the one with a number.
use Rattle.std.specs.Prelude.{ℕ, ◌++◌, List, replicate}
use Rattle.ca_net.specs.declared.trit.Trit.{Trit}
use Rattle.ca_net.specs.declared.trit.Trit.TheVariants.{X}
use Rattle.ca_cell.specs.Row.{vector_of}

-- the first vector of this many bits is set
abbrev pub first_set : ℕ → ℕ → List Trit
first_set inputs number = vector_of inputs number ++ replicate inputs X

-- the last one is
abbrev pub last_set : ℕ → ℕ → List Trit
last_set inputs number = replicate inputs X ++ vector_of inputs number
