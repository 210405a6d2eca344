-- The three limits of a pair, as properties (this project's choice). They are what is computed, and not the
-- model.
use Rattle.std.specs.Prelude.{ℕ, ◌≡◌, List}
use Rattle.ca_net.specs.declared.trit.Trit.{Trit}
use Rattle.ca_net.specs.Trit.{IsBelow, meet_of}
use Rattle.ca_net.specs.Circuit.{Circuit, IsInput, IsStorage}
use Rattle.ca_net.specs.State.{IsState, value_at, IsStateBelow}
use Rattle.ca_net.specs.Response.{IsResponse}

-- the state's inputs are those of the vector
abbrev pub HasInputs : Circuit → List Trit → List Trit → Type 0
HasInputs net v s = (n : ℕ) → IsInput net n → value_at s n ≡ value_at v n

-- a state over the vector in which each storage node has its response
pub record IsFixed (net : Circuit) (v s : List Trit) : Type 0 where
  pub is_state : IsState net s
  pub inputs : HasInputs net v s
  pub fixed : (n : ℕ) → IsStorage net n → IsResponse net s n (value_at s n)

-- the first limit: the least state over the vector in which each storage node has its response
pub record IsFirstLimit (net : Circuit) (v s : List Trit) : Type 0 where
  pub fixed : IsFixed net v s
  pub least : (t : List Trit) → IsFixed net v t → IsStateBelow s t

-- a state over the vector, at or below the first limit, in which each storage node is at or below its
-- response
pub record IsHeld (net : Circuit) (v first s : List Trit) : Type 0 where
  pub is_state : IsState net s
  pub inputs : HasInputs net v s
  pub below_first : IsStateBelow s first
  pub held : (n : ℕ) → IsStorage net n → (r : Trit) → IsResponse net s n r → IsBelow (value_at s n) r

-- the middle limit: the greatest such state
pub record IsMiddleLimit (net : Circuit) (v first s : List Trit) : Type 0 where
  pub held : IsHeld net v first s
  pub greatest : (t : List Trit) → IsHeld net v first t → IsStateBelow t s

-- at each storage node the state is at or above the other
abbrev pub AboveAtStorage : Circuit → List Trit → List Trit → Type 0
AboveAtStorage net middle s = (n : ℕ) → IsStorage net n → IsBelow (value_at middle n) (value_at s n)

-- the last limit: the least state over the vector, at or above the middle limit at each storage node, in
-- which each storage node has its response
pub record IsLastLimit (net : Circuit) (v middle s : List Trit) : Type 0 where
  pub fixed : IsFixed net v s
  pub above : AboveAtStorage net middle s
  pub least : (t : List Trit) → IsFixed net v t → AboveAtStorage net middle t → IsStateBelow s t

-- the three limits for inputs that are at v1, then at vm, then at v2
pub record AreLimits (net : Circuit) (v1 vm v2 first middle last : List Trit) : Type 0 where
  pub is_first : IsFirstLimit net v1 first
  pub is_middle : IsMiddleLimit net vm first middle
  pub is_last : IsLastLimit net v2 middle last

-- vm is at each input node the meet of v1 and v2
abbrev pub IsMeet : Circuit → List Trit → List Trit → List Trit → Type 0
IsMeet net v1 v2 vm = (n : ℕ) → IsInput net n → value_at vm n ≡ meet_of (value_at v1 n) (value_at v2 n)
