-- Words of the code: what is kept while regions are tried, and what it is good for.
use Rattle.std.specs.Prelude.{ℕ, ◌≡◌, Bool, true, List, length, None}
use Rattle.ca_cell.specs.declared.row.Row.{Row}
use Rattle.ca_net.specs.Circuit.{IsWellFormed}
use Rattle.ca_flat.specs.Chip.{Chip, count_of}
use Rattle.ca_flat.specs.Flat.{flat}
use Rattle.ca_sweep.specs.Tables.{AreMarks, is_marked}
use Rattle.ca_every_vector.specs.declared.inside.Inside.{Inside}
use Rattle.ca_every_vector.specs.Possible.{Has}
use Rattle.ca_every_vector.specs.Inside.{IsSureAfter}
use Rattle.ca_every_vector.specs.code.Fixed.{AreFixed}
use Rattle.ca_every_vector.specs.code.Region.{IsTried}

-- for each marked instance all was tried
abbrev pub AreTriedMarks : Chip → List ℕ → List Bool → Type 0
AreTriedMarks chip masks tried = AreMarks chip (IsTried chip masks) tried

-- a mask and a mark for each instance, and values are known where constants give them alone
pub record IsKept (chip : Chip) (inside : Inside) : Type 0 where
  pub masks_room : length inside.masks.items ≡ count_of chip
  pub tried_are : AreTriedMarks chip inside.masks.items inside.tried.items
  pub fixed_are : AreFixed chip inside.fixed.items
  pub values_are : inside.values.items ≡ inside.fixed.items
  pub others_are : inside.others.items ≡ inside.fixed.items

-- What the masks of last vectors are good for where not all vectors of the chip are tried: all is sure after
-- each instance with both marks, and all was tried for it.
abbrev pub IsInsideTable : Chip → List ℕ → List Bool → List Bool → Type 0
IsInsideTable chip masks tried sure =
    IsWellFormed (flat chip None) → (u : ℕ) → is_marked tried u ≡ true → is_marked sure u ≡ true
    → IsSureAfter chip u × IsTried chip masks u

-- both hold
pub record AreBoth (one other : Type 0) : Type 0 where
  pub first : one
  pub second : other

-- the last vector of the row isn't in the mask
abbrev pub IsLastOut : ℕ → Row → Type 0
IsLastOut lasts row = Has lasts row.last → ⊥
