-- Marks of instances along the order: only the proofs of the code cite this.
use Rattle.std.specs.Prelude.{ℕ, ◌≡◌, ◌<◌, ◌≤◌, ◌+◌, ◌⊎◌, ◌↔◌, Bool, true, List, length, Some, slice_get}
use Rattle.ca_linked.specs.Linked.{LinkedChip, Feeds}
use Rattle.ca_linked.specs.Paths.{mark_at}

-- besides those that were marked, those of which this holds are
pub record Spreads (New : ℕ → Type 0) (old new : List Bool) : Type 0 where
  pub room : length new ≡ length old
  pub each : (x : ℕ) → (mark_at new x ≡ true) ↔ ((mark_at old x ≡ true) ⊎ New x)

-- one of the instances that were seen leads to x, and it is a seed or is marked
pub record IsLed (Leads : ℕ → ℕ → Type 0) (Seen : ℕ → Type 0) (at marks : List Bool) (x : ℕ) : Type 0 where
  pub from : ℕ
  pub seen : Seen from
  pub leads : Leads from x
  pub marked : (mark_at at from ≡ true) ⊎ (mark_at marks from ≡ true)

-- exactly those to which such an instance leads are marked
pub record AreLed (Leads : ℕ → ℕ → Type 0) (Seen : ℕ → Type 0) (at marks : List Bool) : Type 0 where
  pub room : length marks ≡ length at
  pub each : (x : ℕ) → (mark_at marks x ≡ true) ↔ IsLed Leads Seen at marks x

-- w feeds u, and the other way round
abbrev pub Onward : LinkedChip → ℕ → ℕ → Type 0
Onward chip w u = Feeds chip w u

abbrev pub Back : LinkedChip → ℕ → ℕ → Type 0
Back chip w u = Feeds chip u w

-- the instance is among the first k of the order, or among the last k
pub record IsAmongFirst (chip : LinkedChip) (k w : ℕ) : Type 0 where
  pub place : ℕ
  pub before : place < k
  pub at : slice_get chip.order place ≡ Some w

pub record IsAmongLast (chip : LinkedChip) (k w : ℕ) : Type 0 where
  pub place : ℕ
  pub past : length chip.order ≤ place + k
  pub at : slice_get chip.order place ≡ Some w

-- the instance is a seed or is marked
abbrev pub IsHot : List Bool → List Bool → ℕ → Type 0
IsHot at marks u = (mark_at at u ≡ true) ⊎ (mark_at marks u ≡ true)

-- one of the first nets is one of which this holds, with x
pub record ByNet (Holds : ℕ → ℕ → Type 0) (nets : List ℕ) (count x : ℕ) : Type 0 where
  pub place : ℕ
  pub before : place < count
  pub net : ℕ
  pub at : slice_get nets place ≡ Some net
  pub holds : Holds net x
