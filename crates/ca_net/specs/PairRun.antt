-- Runs of a network for a pair of vectors, and what every one of them ends with (this project's choice).
use Rattle.std.specs.Prelude.{ℕ, zero, suc, ◌≡◌, ◌≢◌, ◌<◌, List, ◌++◌, length}
use Rattle.std.specs.List.{AllByRecursion}
use Rattle.ca_net.specs.declared.trit.Trit.{Trit}
use Rattle.ca_net.specs.declared.trit.Trit.TheVariants.{X}
use Rattle.ca_net.specs.Trit.{IsBelow}
use Rattle.ca_net.specs.Circuit.{Circuit, IsInput}
use Rattle.ca_net.specs.State.{IsState, value_at}
use Rattle.ca_net.specs.Event.{Event, Settle, Blur, Set, Run, IsQuiet, SomeSettles}

-- Settle and Blur events in which each node is settled at least once
pub record IsRound (net : Circuit) (es : List Event) : Type 0 where
  pub quiet : AllByRecursion IsQuiet es
  pub each : (n : ℕ) → n < length net.nodes → SomeSettles n es

-- k rounds, one after another, and then any further Settle and Blur events
abbrev pub HasRounds : Circuit → ℕ → List Event → Type 0
HasRounds net zero es = AllByRecursion IsQuiet es
HasRounds net (suc k) es =
    (round : List Event) × (rest : List Event) × (es ≡ round ++ rest)
    × IsRound net round × HasRounds net k rest

-- as many rounds as the network has nodes, and then any further Settle and Blur events
abbrev pub IsLongPhase : Circuit → List Event → Type 0
IsLongPhase net es = HasRounds net (length net.nodes) es

-- The inputs of the state are at or above the vector. A vector gives a value to each input node, at the
-- node's own place in the list of nodes; what it has at other places isn't looked at.
abbrev pub InputsAbove : Circuit → List Trit → List Trit → Type 0
InputsAbove net v s = (n : ℕ) → IsInput net n → IsBelow (value_at v n) (value_at s n)

-- the event sets no input that has the same definite value in both vectors
abbrev pub MayCome : List Trit → List Trit → Event → Type 0
MayCome v1 v2 (Settle ns) = Unit {0}
MayCome v1 v2 (Blur ns) = Unit {0}
MayCome v1 v2 (Set i v) = value_at v1 i ≡ value_at v2 i → value_at v1 i ≡ X

-- A run of the network for the vectors v1 and v2 that ends in the state last: from any charge and inputs at
-- or above v1 a long phase; then any events that may come, until the inputs are at or above v2; then a long
-- phase.
pub record PairRun (net : Circuit) (v1 v2 last : List Trit) : Type 0 where
  pub start : List Trit
  pub settled : List Trit
  pub changed : List Trit
  pub first_phase : List Event
  pub change : List Event
  pub last_phase : List Event
  pub start_is_state : IsState net start
  pub start_inputs : InputsAbove net v1 start
  pub first_is_long : IsLongPhase net first_phase
  pub first_run : Run net start first_phase settled
  pub change_may_come : AllByRecursion (MayCome v1 v2) change
  pub change_run : Run net settled change changed
  pub changed_inputs : InputsAbove net v2 changed
  pub last_is_long : IsLongPhase net last_phase
  pub last_run : Run net changed last_phase last

-- v is 0 or 1, and every pair run for v1 and v2 ends with v at the node n
pub record EndsAt (net : Circuit) (v1 v2 : List Trit) (n : ℕ) (v : Trit) : Type 0 where
  pub definite : v ≢ X
  pub every_run : (last : List Trit) → PairRun net v1 v2 last → value_at last n ≡ v
