-- Words of the code beside those of `specs/Settled.antt`. Private functions and proofs cite them.
use Rattle.std.specs.Prelude.{ℕ, ◌≡◌, List, length}
use Rattle.ca_net.specs.declared.trit.Trit.{Trit}
use Rattle.ca_net.specs.State.{IsStateBelow}

-- the states have one value per node, and the middle limit is below the first and the last
pub record AreWaves (nodes : ℕ) (next first middle last : List Trit) : Type 0 where
  pub room_next : length next ≡ nodes
  pub room_first : length first ≡ nodes
  pub room_middle : length middle ≡ nodes
  pub room_last : length last ≡ nodes
  pub below_first : IsStateBelow middle first
  pub below_last : IsStateBelow middle last
