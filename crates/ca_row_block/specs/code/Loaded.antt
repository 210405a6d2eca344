-- The vectors of rows, as the states of lanes have them. Only the proofs of the code cite this.
use Rattle.std.specs.Prelude.{ℕ, ◌≡◌, ◌+◌, ◌<◌, List, ◌∷◌}
use Rattle.ca_net.specs.declared.trit.Trit.{Trit}
use Rattle.ca_net.specs.declared.trit.Trit.TheVariants.{Zero, One}
use Rattle.ca_net.specs.State.{value_at}
use Rattle.ca_row_block.specs.declared.load.Side.{Side}
use Rattle.ca_row_block.specs.declared.load.Side.TheVariants.{First, Last}
use Rattle.ca_row_block.specs.Rows.{first_of, last_of}

-- the first nodes have the first of these values
abbrev pub IsLoadedTo : ℕ → List Trit → List Trit → Type 0
IsLoadedTo count values s = (n : ℕ) → n < count → value_at s n ≡ value_at values n

-- power, ground, and the vector of the input pins
abbrev pub rails_and : List Trit → List Trit
rails_and vector = One ∷ Zero ∷ vector

-- the vector of a row on one side
abbrev pub side_of : Side → ℕ → ℕ → List Trit
side_of First inputs number = first_of inputs number
side_of Last inputs number = last_of inputs number

-- the digit of the row's number that an input pin with `after` pins after it has
abbrev pub row_digit : Side → ℕ → ℕ → ℕ
row_digit First inputs after = inputs + after
row_digit Last inputs after = after
