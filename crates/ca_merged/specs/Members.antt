-- The cluster of a bridge: which instances are its members.
use Rattle.std.specs.Prelude.{ℕ, ◌+◌, ◌-◌, ◌≡◌, ◌≤◌, ◌⊎◌, ◌↔◌, ◌&&◌, ◌||◌, Bool, true, List}
use Rattle.std.specs.List.{Contains, filter, range_with_len}
use Rattle.ca_flat.specs.Chip.{Chip, inputs_at, net_of, count_of, Drives}
use Rattle.ca_merged.specs.Merged.{IsInstanceChain, AreMembers}
use Rattle.ca_merged.specs.Bridge.{IsInputPin}

-- if the node is that of an input pin, an instance drives the pin's net: it is no chip input and no constant
abbrev pub IsDrivenEnd : Chip → ℕ → ℕ → Type 0
IsDrivenEnd chip u n = IsInputPin chip u n → Drives chip (net_of chip u (n - 2))

-- the node is that of an input pin of u, on a net that x drives
abbrev pub DrivesEnd : Chip → ℕ → ℕ → ℕ → Type 0
DrivesEnd chip u n x =
    IsInputPin chip u n × ((driver : Drives chip (net_of chip u (n - 2))) × (driver.instance ≡ x))

-- x is u, and the node is that of an output pin or an inner one
abbrev pub IsAtEnd : Chip → ℕ → ℕ → ℕ → Type 0
IsAtEnd chip u n x = (2 + inputs_at chip u ≤ n) × (x ≡ u)

-- an end of the bridge makes x a member
abbrev pub IsAtBridge : Chip → ℕ → ℕ → ℕ → ℕ → Type 0
IsAtBridge chip u m n x =
    (DrivesEnd chip u m x ⊎ DrivesEnd chip u n x) ⊎ (IsAtEnd chip u m x ⊎ IsAtEnd chip u n x)

-- x is on a chain from such an instance to such an instance
pub record IsBetween (chip : Chip) (u m n x : ℕ) : Type 0 where
  pub from : ℕ
  pub to : ℕ
  pub from_is : IsAtBridge chip u m n from
  pub to_is : IsAtBridge chip u m n to
  pub path : List ℕ
  pub chain : IsInstanceChain chip from path to
  pub on : Contains path x

-- the members of the cluster of a bridge: those that its ends make members, and every instance between them
pub record AreClusterMembers (chip : Chip) (u m n : ℕ) (members : List ℕ) : Type 0 where
  pub are : AreMembers chip members
  pub ends : (x : ℕ) → IsAtBridge chip u m n x → Contains members x
  pub least : (x : ℕ) → Contains members x → IsAtBridge chip u m n x ⊎ IsBetween chip u m n x

-- a chain leads to x from an instance that an end of the bridge makes a member
pub record IsAfterBridge (chip : Chip) (u m n x : ℕ) : Type 0 where
  pub from : ℕ
  pub from_is : IsAtBridge chip u m n from
  pub path : List ℕ
  pub chain : IsInstanceChain chip from path x

-- a chain leads from x to such an instance
pub record IsBeforeBridge (chip : Chip) (u m n x : ℕ) : Type 0 where
  pub to : ℕ
  pub to_is : IsAtBridge chip u m n to
  pub path : List ℕ
  pub chain : IsInstanceChain chip x path to

-- the marks of the instances at the bridge, after it and before it
pub record AreBridgeMarks (chip : Chip) (u m n : ℕ) (at after before : ℕ → Bool) : Type 0 where
  pub at_are : (x : ℕ) → (at x ≡ true) ↔ IsAtBridge chip u m n x
  pub after_are : (x : ℕ) → (after x ≡ true) ↔ IsAfterBridge chip u m n x
  pub before_are : (x : ℕ) → (before x ≡ true) ↔ IsBeforeBridge chip u m n x

-- the instances that are marked as at the bridge, or as after it and before it, in their order
abbrev pub marked_instances : Chip → (ℕ → Bool) → (ℕ → Bool) → (ℕ → Bool) → List ℕ
marked_instances chip at after before =
    filter (λ x. at x || (after x && before x)) (range_with_len 0 (count_of chip))
