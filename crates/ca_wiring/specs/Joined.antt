-- Wires that `assign`s join, and the earliest of those that are joined.
use Rattle.std.specs.Prelude.{ℕ, ◌≡◌, ◌<◌, ◌≤◌, ◌⊎◌, List, length, slice_index}
use Rattle.std.specs.List.{Contains}
use Rattle.ca_wiring.specs.declared.joined.Join.{Join}

-- the join has one wire on its one side and the other on its other
abbrev pub Links : Join → ℕ → ℕ → Type 0
Links join a b = ((join.left ≡ a) × (join.right ≡ b)) ⊎ ((join.right ≡ a) × (join.left ≡ b))

-- from one wire the joins lead to the other
pub data AreJoined (joins : List Join) : ℕ → ℕ → Type 0 where
  Same : {a b : ℕ} → a ≡ b → AreJoined joins a b
  Across : {a b : ℕ} (join : Join) (c : ℕ) → AreJoined joins a c → Contains joins join → Links join c b
      → AreJoined joins a b

-- of the wires that are joined with this one, the other is the earliest
pub record IsEarliest (joins : List Join) (wire earliest : ℕ) : Type 0 where
  pub joined : AreJoined joins wire earliest
  pub none_before : (other : ℕ) → AreJoined joins wire other → earliest ≤ other

-- the list has for each wire the earliest of those that are joined with it
pub record AreEarliest (joins : List Join) (wires : ℕ) (earliest : List ℕ) : Type 0 where
  pub count : length earliest ≡ wires
  pub each : (wire : ℕ) → wire < wires → IsEarliest joins wire (slice_index earliest wire)
