-- States: one value per node (Bryant 1984, the state of a network).
use Rattle.std.specs.Prelude.{ℕ, ◌≡◌, List, length, slice_index_or}
use Rattle.ca_net.specs.declared.trit.Trit.{Trit}
use Rattle.ca_net.specs.declared.trit.Trit.TheVariants.{X}
use Rattle.ca_net.specs.Trit.{IsBelow}
use Rattle.ca_net.specs.Circuit.{Circuit}

-- the list has one value per node of the network
abbrev pub IsState : Circuit → List Trit → Type 0
IsState net s = length s ≡ length net.nodes

-- the value of a node in a state, X past its end
abbrev pub value_at : List Trit → ℕ → Trit
value_at s n = slice_index_or s n X

-- one state is below another where each of its values is below the other's at the same node
abbrev pub IsStateBelow : List Trit → List Trit → Type 0
IsStateBelow s t = (n : ℕ) → IsBelow (value_at s n) (value_at t n)
