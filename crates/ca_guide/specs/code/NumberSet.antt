-- Words of the code beside those of `specs/NumberSet.antt`. Private functions and proofs cite them.
use Rattle.std.specs.Prelude.{ℕ, ◌≡◌, ◌↔◌, ◌⊎◌, Bool, true, false}
use Rattle.std.specs.Prelude.{List, length, slice_index_or, count_by}
use Rattle.std.specs.List.{Contains}
use Rattle.ca_guide.specs.NumberSet.{Numbers}

-- the flags are set at the members, each of which is there once
pub record AreFlags (flags : List Bool) (members : List ℕ) : Type 0 where
  pub at_members : (number : ℕ) → (slice_index_or flags number false ≡ true) ↔ Contains members number
  pub once : count_by (λ flag. flag) flags ≡ length members

-- the number has come to the members if the condition holds
pub record AddsIf (condition : Type 0) (number : ℕ) (old new : Numbers) : Type 0 where
  pub bound : new.bound ≡ old.bound
  pub members : (other : ℕ)
      → Contains new.members other ↔ (Contains old.members other ⊎ ((number ≡ other) × condition))
