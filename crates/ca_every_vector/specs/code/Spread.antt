-- Words of the code: what flips of an instance's outputs change, from values that need not be known
-- everywhere.
use Rattle.std.specs.Prelude.{ℕ, ◌≡◌, ◌≢◌, ◌<◌, ◌⊎◌, List, length, slice_index_or, slice_set, false}
use Rattle.std.specs.List.{All, Contains}
use Rattle.ca_net.specs.declared.trit.Trit.{Trit}
use Rattle.ca_net.specs.declared.trit.Trit.TheVariants.{X}
use Rattle.ca_net.specs.declared.wave.Wave.{Wave}
use Rattle.ca_net.specs.State.{value_at}
use Rattle.ca_flat.specs.Chip.{Chip, inputs_at, outputs_at, net_of, output_net, count_of}
use Rattle.ca_flips.specs.Flips.{IsEvaluated}
use Rattle.ca_static.specs.LastTable.{last_at}
use Rattle.ca_view.specs.Linked.{IsPlaced, Reads}
use Rattle.ca_view.specs.NetLists.{NetLists}
use Rattle.ca_sweep.specs.declared.seen.Flips.{Flips}
use Rattle.ca_sweep.specs.Seen.{flipped_outputs}
use Rattle.ca_every_vector.specs.Inside.{IsEvaluatedInside, StaysInside}

-- the values of the instance's input nets are known, and its output nets have what its cell ends with by them
pub record IsGiven (chip : Chip) (w : ℕ) (values : ℕ → Trit) : Type 0 where
  pub known : (pin : ℕ) → pin < inputs_at chip w → values (net_of chip w pin) ≢ X
  pub evaluated : IsEvaluated chip w values

-- the net is an output net of u or of an instance of the list
pub record IsDrivenBy (chip : Chip) (u : ℕ) (touched : List ℕ) (net : ℕ) : Type 0 where
  pub instance : ℕ
  pub output : ℕ
  pub known : instance < count_of chip
  pub within : output < outputs_at chip instance
  pub on : output_net chip instance output ≡ net
  pub by : (instance ≡ u) ⊎ Contains touched instance

-- The others are the values but at nets that are listed, each of these is an output net of u or of a listed
-- instance, and listed instances have a place.
pub record AreSpread (chip : Chip) (place_of : ℕ → ℕ) (u : ℕ) (values others : List Trit)
    (changed touched : List ℕ) : Type 0 where
  pub nets : length others ≡ length chip.nets
  pub same : (net : ℕ) → (value_at others net ≡ value_at values net) ⊎ Contains changed net
  pub driven : (net : ℕ) → Contains changed net → IsDrivenBy chip u touched net
  pub placed : All (IsPlaced chip place_of) touched

-- a net is given a value, and listed if it had another one
pub record IsPutAt (net : ℕ) (value : Trit) (old : List Trit) (listed : List ℕ) (new : List Trit)
    (relisted : List ℕ) : Type 0 where
  pub put : new ≡ slice_set old net value
  pub more : (n : ℕ) → Contains listed n → Contains relisted n
  pub only : (n : ℕ) → Contains relisted n → Contains listed n ⊎ (n ≡ net)
  pub at : (value_at old net ≡ value) ⊎ Contains relisted net

-- each instance of the list is evaluated where the values are known
abbrev pub AreInside : Chip → List Trit → List Trit → List ℕ → Type 0
AreInside chip values others = All (λ w. IsEvaluatedInside chip w (value_at values) (value_at others))

-- each that reads the net is
abbrev pub AreReadersInside : Chip → List Trit → List Trit → ℕ → Type 0
AreReadersInside chip values others net =
    (w : ℕ) → Reads chip w net → IsEvaluatedInside chip w (value_at values) (value_at others)

-- the first output nets of the instance w have the last values of the entry of a number
abbrev pub HasEntry : Chip → ℕ → (ℕ → Trit) → List (List Wave) → ℕ → ℕ → Type 0
HasEntry chip w values table number end =
    (output : ℕ) → output < end → values (output_net chip w output) ≡ last_at table number output

-- the net isn't observed, and all that read it are evaluated where the values are known
pub record IsChangedInside (chip : Chip) (lists : NetLists) (values others : List Trit) (net : ℕ) : Type 0
  where
    pub hidden : slice_index_or lists.observed net false ≡ false
    pub readers : AreReadersInside chip values others net

-- the output nets of u are known, and the others there are the opposite where the pins are flipped
pub record AreFlippedOut (chip : Chip) (u : ℕ) (values others : List Trit) (flips : Flips) : Type 0 where
  pub own : (output : ℕ) → output < outputs_at chip u → value_at values (output_net chip u output) ≢ X
  pub given : (output : ℕ) → output < outputs_at chip u
      → value_at others (output_net chip u output) ≡ flipped_outputs chip u (value_at values) flips output

-- there are values with which flips of u stay inside
abbrev pub StaysSomehow : Chip → ℕ → List Trit → Flips → Type 0
StaysSomehow chip u values flips = (others : ℕ → Trit) × StaysInside chip u (value_at values) flips others
