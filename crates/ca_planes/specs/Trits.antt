-- Values in 64 lanes, as two planes: the lanes in which the value may be 0, and those in which it may be 1.
use Rattle.std.specs.Prelude.{ℕ, Bool, true, false, List, [], ◌∷◌, ◌≡◌, length}
use Rattle.ca_net.specs.declared.trit.Trit.{Trit}
use Rattle.ca_net.specs.declared.trit.Trit.TheVariants.{Zero, One, X}
use Rattle.ca_planes.specs.declared.block.Block.{Block}
use Rattle.ca_planes.specs.declared.trits.Trits.{Trits}
use Rattle.ca_planes.specs.Plane.{has_lane}

-- the value that may be 0, if `zero`, and may be 1, if `one`; what may be neither is 0
abbrev pub trit_for : Bool → Bool → Trit
trit_for true true = X
trit_for false true = One
trit_for true false = Zero
trit_for false false = Zero

-- the value in a lane of two planes
abbrev pub value_in : ℕ → ℕ → ℕ → Trit
value_in z o lane = trit_for (has_lane z lane) (has_lane o lane)

-- the value in a lane
abbrev pub trit_in : Trits → ℕ → Trit
trit_in value lane = value_in value.zero value.one lane

-- the values in a lane of two lists of planes
abbrev pub values_in : List ℕ → List ℕ → ℕ → List Trit
values_in [] ones lane = []
values_in (z ∷ zeros) [] lane = []
values_in (z ∷ zeros) (o ∷ ones) lane = value_in z o lane ∷ values_in zeros ones lane

-- the state of a lane: the values of all nodes there
abbrev pub state_in : Block → ℕ → List Trit
state_in block lane = values_in block.zeros.items block.ones.items lane

-- the block has this many nodes
pub record HasNodes (nodes : ℕ) (block : Block) : Type 0 where
  pub zeros : length block.zeros.items ≡ nodes
  pub ones : length block.ones.items ≡ nodes
