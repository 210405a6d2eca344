-- Events: the atomic steps of a network (this project's choice of events over Bryant's response).
use Rattle.std.specs.Prelude.{ℕ, ◌≡◌, ◌<◌, ◌⊎◌, List, [], ◌∷◌, length, slice_set}
use Rattle.std.specs.List.{Contains}
use Rattle.ca_net.specs.declared.trit.Trit.{Trit}
use Rattle.ca_net.specs.declared.trit.Trit.TheVariants.{X}
use Rattle.ca_net.specs.Circuit.{Circuit, IsInput}
use Rattle.ca_net.specs.State.{IsState, value_at}
use Rattle.ca_net.specs.Response.{IsResponse}

-- nodes take their responses at once; nodes that are about to change become unknown; an input changes
pub data Event : Type 0 where
  Settle : List ℕ → Event
  Blur : List ℕ → Event
  Set : ℕ → Trit → Event

-- each listed node is one of the network's
abbrev pub AllNodes : Circuit → List ℕ → Type 0
AllNodes net ns = (n : ℕ) → Contains ns n → n < length net.nodes

-- the event names nodes of the network alone, and Set an input node
abbrev pub IsEvent : Circuit → Event → Type 0
IsEvent net (Settle ns) = AllNodes net ns
IsEvent net (Blur ns) = AllNodes net ns
IsEvent net (Set i v) = IsInput net i

-- the node's response differs from its value
abbrev pub IsUnstable : Circuit → List Trit → ℕ → Type 0
IsUnstable net s n = IsResponse net s n (value_at s n) → ⊥

-- The event takes the state old to the state new: Settle gives each listed node its response in old, Blur
-- gives X to each listed node whose response differs from its value (an input node's never does), Set gives
-- the input its value, and each other node keeps its own.
abbrev pub Step : Circuit → List Trit → Event → List Trit → Type 0
Step net old (Settle ns) new =
    IsState net new
    × ((n : ℕ) → Contains ns n → IsResponse net old n (value_at new n))
    × ((n : ℕ) → (Contains ns n → ⊥) → value_at new n ≡ value_at old n)
Step net old (Blur ns) new =
    IsState net new
    × ((n : ℕ) → Contains ns n → IsUnstable net old n → value_at new n ≡ X)
    × ((n : ℕ) → (Contains ns n → IsUnstable net old n → ⊥) → value_at new n ≡ value_at old n)
Step net old (Set i v) new = new ≡ slice_set old i v

-- the events, one after another, take the state old to the state new
abbrev pub Run : Circuit → List Trit → List Event → List Trit → Type 0
Run net old [] new = new ≡ old
Run net old (e ∷ es) new = IsEvent net e × ((mid : List Trit) × Step net old e mid × Run net mid es new)

-- the event changes no input
abbrev pub IsQuiet : Event → Type 0
IsQuiet (Settle ns) = Unit {0}
IsQuiet (Blur ns) = Unit {0}
IsQuiet (Set i v) = ⊥

-- the event settles the node n
abbrev pub Settles : ℕ → Event → Type 0
Settles n (Settle ns) = Contains ns n
Settles n (Blur ns) = ⊥
Settles n (Set i v) = ⊥

-- some of the events settles the node n
abbrev pub SomeSettles : ℕ → List Event → Type 0
SomeSettles n [] = ⊥
SomeSettles n (e ∷ es) = Settles n e ⊎ SomeSettles n es
