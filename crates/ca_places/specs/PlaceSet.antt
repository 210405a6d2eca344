-- Sets of places, a bit for each.
use Rattle.std.specs.Prelude.{ℕ, ◌+◌, ◌*◌, ◌/◌, ◌%◌, ◌≡◌, ◌≤◌, ◌<◌, List, length, slice_index, Option}
use Rattle.std.specs.Prelude.{None, Some}
use Rattle.std.specs.Int.{bit_at}
use Rattle.ca_places.specs.declared.place_set.PlaceSet.{PlaceSet}

-- the bit of the place is set in the words, of 64 bits each
abbrev pub HasBit : List ℕ → ℕ → Type 0
HasBit words place = bit_at (slice_index words (place / 64)) (place % 64) ≡ 1

-- the place is in the set
abbrev pub Has : PlaceSet → ℕ → Type 0
Has set place = HasBit set.words.items place

-- `count` places can be in the set
abbrev pub HoldsUpTo : PlaceSet → ℕ → Type 0
HoldsUpTo set count = count ≤ 64 * length set.words.items

-- the set was made for this many places
abbrev pub HasRoomFor : PlaceSet → ℕ → Type 0
HasRoomFor set count = length set.words.items ≡ count / 64 + 1

-- as many places can be in one set as in the other
abbrev pub IsAsRoomy : PlaceSet → PlaceSet → Type 0
IsAsRoomy set other = length set.words.items ≡ length other.words.items

-- the first place of the set at or past this one, if there is one
abbrev pub IsNext : PlaceSet → ℕ → Option ℕ → Type 0
IsNext set from None = (place : ℕ) → from ≤ place → Has set place → ⊥
IsNext set from (Some next) =
    (from ≤ next) × Has set next × ((place : ℕ) → from ≤ place → place < next → Has set place → ⊥)
