-- What only proofs of code cite: values that are good but for those that a sweep changed, and good again.
use Rattle.std.specs.Prelude.{ℕ, ◌≡◌, ◌<◌, ◌⊎◌, List, length}
use Rattle.ca_net.specs.declared.trit.Trit.{Trit}
use Rattle.ca_net.specs.State.{value_at}
use Rattle.ca_flat.specs.Chip.{Chip, outputs_at, output_net}
use Rattle.ca_view.specs.Linked.{IsPlace}
use Rattle.ca_sweep.specs.declared.values.Values.{Values}
use Rattle.ca_sweep.specs.code.Changes.{IsDue, AreRoomy, IsOutputBelow, IsTouched}

-- the nets have these values, and nothing is due
pub record IsAtRest (chip : Chip) (lasts : List Trit) (values : Values) : Type 0 where
  pub room : AreRoomy chip values
  pub values_are : values.values ≡ lasts
  pub none : (place : ℕ) → ¬ (IsDue values.due place)

-- only output nets of u and of instances that are due may have other values than the good ones
pub record IsHeld (chip : Chip) (place_of : ℕ → ℕ) (u : ℕ) (goods : ℕ → Trit) (values : Values) : Type 0
  where
    pub room : AreRoomy chip values
    pub each : (net : ℕ) → (value_at values.values net ≡ goods net)
        ⊎ (IsOutputBelow chip u (outputs_at chip u) net ⊎ IsTouched chip place_of values.due net)
    pub placed : (place : ℕ) → IsDue values.due place → IsPlace chip place_of place

-- the nets of the first `count` output pins of an instance have good values, and all that had them
pub record IsGivenBackTo (chip : Chip) (w count : ℕ) (goods : ℕ → Trit) (old new : Values) : Type 0 where
  pub nets : length new.values ≡ length old.values
  pub due : new.due ≡ old.due
  pub stays : (net : ℕ) → value_at old.values net ≡ goods net → value_at new.values net ≡ goods net
  pub outputs : (output : ℕ) → output < count
      → value_at new.values (output_net chip w output) ≡ goods (output_net chip w output)

-- so have those of all its output pins
abbrev pub IsGivenBack : Chip → ℕ → (ℕ → Trit) → Values → Values → Type 0
IsGivenBack chip w goods old new = IsGivenBackTo chip w (outputs_at chip w) goods old new
