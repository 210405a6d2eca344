-- Laws of the limits of one network: that there are some, that they rise with their waves, and what a wave
-- that stays gives.
use Rattle.std.specs.Prelude.{ℕ, ◌≡◌, List}
use Rattle.ca_net.specs.declared.trit.Trit.{Trit}
use Rattle.ca_net.specs.Circuit.{Circuit, IsWellFormed}
use Rattle.ca_net.specs.State.{value_at, IsStateBelow}
use Rattle.ca_net.specs.Limits.{AreLimits}
use Rattle.ca_parts.specs.Composition.{InputsUnder}

-- three states over waves, and three over others
pub record AreBelow (first middle last high_first high_middle high_last : List Trit) : Type 0 where
  pub first_below : IsStateBelow first high_first
  pub middle_below : IsStateBelow middle high_middle
  pub last_below : IsStateBelow last high_last

-- limits rise with their waves: where each input's wave is at or below another in all three frames, so are
-- the limits
abbrev pub LimitsRise : Type 0
LimitsRise =
    (net : Circuit) (v1 vm v2 w1 wm w2 first middle last high_first high_middle high_last : List Trit)
    → IsWellFormed net → InputsUnder net v1 w1 → InputsUnder net vm wm → InputsUnder net v2 w2
    → InputsUnder net vm v2 → InputsUnder net wm w1
    → AreLimits net v1 vm v2 first middle last → AreLimits net w1 wm w2 high_first high_middle high_last
    → AreBelow first middle last high_first high_middle high_last

-- there are limits; which states they are is found by computing, so that all that is said here is that none
-- can't be
abbrev pub LimitsExist : Type 0
LimitsExist =
    (net : Circuit) (v1 vm v2 : List Trit) → IsWellFormed net → InputsUnder net vm v1 → InputsUnder net vm v2
    → ((first middle last : List Trit) → AreLimits net v1 vm v2 first middle last → ⊥) → ⊥

-- where every input stays, the last limit is the first
abbrev pub SteadyLimits : Type 0
SteadyLimits =
    (net : Circuit) (v first middle last : List Trit) → IsWellFormed net
    → AreLimits net v v v first middle last
    → (n : ℕ) → value_at last n ≡ value_at first n
