-- Sets of numbers below a bound, in the order in which the numbers came.
use Rattle.std.specs.Prelude.{ℕ, ◌≡◌, ◌++◌, Bool, true, false}
use Rattle.std.specs.Prelude.{List, [], ◌∷◌}
use Rattle.std.specs.List.{Contains}

-- the bound, and the numbers that are in the set
pub record Numbers : Type 0 where
  pub bound : ℕ
  pub members : List ℕ

-- the set of no numbers
abbrev pub none_below : ℕ → Numbers
none_below bound = record { bound = bound; members = [] }

-- a new number comes after the others, and an old one changes nothing
abbrev pub IsInsert : Bool → Numbers → Numbers → ℕ → Type 0
IsInsert true old new number =
    (Contains old.members number → ⊥) × (new ≡ record old { members = old.members ++ number ∷ [] })
IsInsert false old new number = Contains old.members number × (new ≡ old)
