-- What a sweep answers: the first observed output at which a flip of an instance's outputs is seen.
use Rattle.std.specs.Prelude.{ℕ, zero, suc, ◌≡◌, ◌<◌, Bool, true, false, List, length, map, slice_index}
use Rattle.std.specs.Prelude.{slice_index_or}
use Rattle.std.specs.Prelude.{Option, None, Some}
use Rattle.ca_net.specs.declared.trit.Trit.{Trit}
use Rattle.ca_net.specs.declared.wave.Wave.{Wave}
use Rattle.ca_cell.specs.Exposes.{opposite_of}
use Rattle.ca_planes.specs.Plane.{has_lane}
use Rattle.ca_flat.specs.Chip.{Chip, output_net}
use Rattle.ca_flat.specs.Codes.{bit_trit}
use Rattle.ca_flips.specs.Flips.{AreStaticAfter, AreDefiniteAfter, AreSwept, IsOpposite}
use Rattle.ca_sweep.specs.declared.seen.Flips.{Flips}
use Rattle.ca_sweep.specs.declared.seen.Seen.{Seen}
use Rattle.ca_sweep.specs.declared.seen.Seen.TheVariants.{Undecided, Nowhere, At}

-- the chip, the places of its instances in the order, and the good last value of each net
pub record Swept : Type 0 where
  pub chip : Chip
  pub places : List ℕ
  pub lasts : List Trit

-- so they are of this chip
pub record IsOfChip (chip : Chip) (places : List ℕ) (swept : Swept) : Type 0 where
  pub chip_is : swept.chip ≡ chip
  pub places_are : swept.places ≡ places

-- the same of a finder, which has the good wave of each net too
pub record Loaded : Type 0 where
  pub chip : Chip
  pub places : List ℕ
  pub lasts : List Trit
  pub waves : List Wave

-- so it is of this chip
pub record IsForChip (chip : Chip) (places : List ℕ) (loaded : Loaded) : Type 0 where
  pub chip_is : loaded.chip ≡ chip
  pub places_are : loaded.places ≡ places

-- the last values of waves
abbrev pub lasts_in : List Wave → List Trit
lasts_in waves = map (λ (wave : Wave). wave.last) waves

-- whether the output pin is flipped
abbrev pub is_flipped : Flips → ℕ → Bool
is_flipped flips zero = flips.first
is_flipped flips (suc output) = flips.second

-- the opposite of a value, or the value
abbrev pub flipped_if : Bool → Trit → Trit
flipped_if true value = opposite_of value
flipped_if false value = value

-- the values of the output pins of the instance u: the opposite of the good one where a pin is flipped
abbrev pub flipped_outputs : Chip → ℕ → (ℕ → Trit) → Flips → ℕ → Trit
flipped_outputs chip u goods flips output =
    flipped_if (is_flipped flips output) (goods (output_net chip u output))

-- the instances after u are static, and the good values are definite there
pub record IsClear (chip : Chip) (goods : ℕ → Trit) (u : ℕ) : Type 0 where
  pub all_static : AreStaticAfter chip u
  pub definite : AreDefiniteAfter chip u goods

-- the values are opposite to the good ones at the net at a place of the list
abbrev pub IsOppositeAt : (ℕ → Trit) → (ℕ → Trit) → List ℕ → ℕ → Type 0
IsOppositeAt goods values nets place =
    IsOpposite (goods (slice_index nets place)) (values (slice_index nets place))

-- so they are at none before this one
abbrev pub AreNotOppositeBefore : (ℕ → Trit) → (ℕ → Trit) → List ℕ → ℕ → Type 0
AreNotOppositeBefore goods values nets end =
    (place : ℕ) → place < end → ¬ (IsOppositeAt goods values nets place)

-- the first of the nets at which they are opposite, if there is one
abbrev pub IsFirstIn : (ℕ → Trit) → (ℕ → Trit) → List ℕ → Option ℕ → Type 0
IsFirstIn goods values nets None = AreNotOppositeBefore goods values nets (length nets)
IsFirstIn goods values nets (Some place) =
    (place < length nets) × IsOppositeAt goods values nets place
    × AreNotOppositeBefore goods values nets place

-- where these output pins of u are flipped, values that are found an instance at a time are first opposite
-- there
pub record IsSeenFrom (chip : Chip) (goods : ℕ → Trit) (u : ℕ) (flips : Flips) (answer : Option ℕ) : Type 0
  where
    pub clear : IsClear chip goods u
    pub values : ℕ → Trit
    pub swept : AreSwept chip u goods (flipped_outputs chip u goods flips) values
    pub first : IsFirstIn goods values chip.outputs answer

-- so says an answer that decides
abbrev pub IsSeen : Chip → (ℕ → Trit) → ℕ → Flips → Seen → Type 0
IsSeen chip goods u flips Undecided = Unit {0}
IsSeen chip goods u flips Nowhere = IsSeenFrom chip goods u flips None
IsSeen chip goods u flips (At output) = IsSeenFrom chip goods u flips (Some output)

-- the chip, the places of its instances in the order, for each net whether an instance with a place has a pin
-- on it, and for each net the lanes in which its last value is 1
pub record Laned : Type 0 where
  pub chip : Chip
  pub places : List ℕ
  pub pinned : List Bool
  pub ones : List ℕ

-- values that are the same at the marked nets
abbrev pub AreSameAt : List Bool → (ℕ → Trit) → (ℕ → Trit) → Type 0
AreSameAt marks one other = (net : ℕ) → slice_index_or marks net false ≡ true → one net ≡ other net

-- so they are of this chip
pub record IsLanedFor (chip : Chip) (places : List ℕ) (laned : Laned) : Type 0 where
  pub chip_is : laned.chip ≡ chip
  pub places_are : laned.places ≡ places

-- no flip of the outputs of the instance u is seen at an observed output
abbrev pub AreUnseen : Chip → (ℕ → Trit) → ℕ → Type 0
AreUnseen chip goods u = (flips : Flips) → IsSeen chip goods u flips Nowhere

-- the values of the nets in a lane: 1 where the plane of the net has the lane, else 0
abbrev pub trits_in : List ℕ → ℕ → List Trit
trits_in ones lane = map (λ (plane : ℕ). bit_trit (has_lane plane lane)) ones
