-- The first that has a property.
use Rattle.std.specs.Prelude.{ℕ, List, take, All, IsSomeAnd, slice_get}

-- the entry at this place has the property, and none before it has
pub record IsFirst {T : Type 0} (P : T → Type 0) (xs : List T) (place : ℕ) : Type 0 where
  pub here : IsSomeAnd (slice_get xs place) P
  pub none_before : All (λ x. ¬ (P x)) (take place xs)
