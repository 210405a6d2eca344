-- The observed nets of a chip as a list.
use Rattle.std.specs.Prelude.{ℕ, ◌≡◌, ◌<◌, ◌↔◌, Bool, true, false, List, slice_index_or}
use Rattle.std.specs.List.{Contains}

-- these are the observed ones among the first `count` nets
pub record AreObservedBelow (observed : List Bool) (count : ℕ) (nets : List ℕ) : Type 0 where
  pub each : (net : ℕ) → Contains nets net
      ↔ ((net < count) × (slice_index_or observed net false ≡ true))
