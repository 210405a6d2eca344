-- Laws of the definitions.
use Rattle.std.specs.Prelude.{ℕ, ◌≡◌, ◌<◌, ◌↔◌, List, length}
use Rattle.ca_net.specs.declared.trit.Trit.{Trit}
use Rattle.ca_net.specs.Circuit.{Circuit, IsWellFormed, IsInput, IsStorage}
use Rattle.ca_net.specs.Trit.{IsBelow}
use Rattle.ca_net.specs.State.{value_at, IsState}
use Rattle.ca_net.specs.Response.{StorageResponse}
use Rattle.ca_net.specs.Limits.{HasInputs, AreLimits}
use Rattle.ca_parts.specs.Part.{IsPart}
use Rattle.ca_parts.specs.Parts.{part_state, IsSplit, Agree, IsGlued}

-- at each input node
abbrev pub InputsUnder : Circuit → List Trit → List Trit → Type 0
InputsUnder net v s = (n : ℕ) → IsInput net n → IsBelow (value_at v n) (value_at s n)

-- a state over the vector
pub record IsOver (net : Circuit) (v s : List Trit) : Type 0 where
  pub is_state : IsState net s
  pub inputs : HasInputs net v s

-- the states of a part are its limits over their own values at its input nodes
abbrev pub PartLimits : Circuit → (ℕ → ℕ) → List Trit → List Trit → List Trit → Type 0
PartLimits c to first middle last =
    AreLimits c (part_state c to first) (part_state c to middle) (part_state c to last)
    (part_state c to first) (part_state c to middle) (part_state c to last)

-- three states over the vectors are the limits of the whole exactly where they are limits in each of its
-- parts
abbrev pub LimitsCompose : Type 0
LimitsCompose =
    (f : Circuit) (cell : ℕ → Circuit) (to : ℕ → ℕ → ℕ) (count : ℕ) (rank : ℕ → ℕ)
    (v1 vm v2 first middle last : List Trit) → IsWellFormed f → IsSplit f cell to count rank
    → InputsUnder f vm v1 → InputsUnder f vm v2
    → IsOver f v1 first → IsOver f vm middle → IsOver f v2 last
    → AreLimits f v1 vm v2 first middle last
    ↔ ((u : ℕ) → u < count → PartLimits (cell u) (to u) first middle last)

-- limits of the parts that agree are limits of the whole
abbrev pub LimitsAreGlued : Type 0
LimitsAreGlued =
    (f : Circuit) (cell : ℕ → Circuit) (to : ℕ → ℕ → ℕ) (count : ℕ) (rank : ℕ → ℕ) (v1 vm v2 : List Trit)
    (w1 wm w2 first middle last : ℕ → List Trit) → IsWellFormed f → IsSplit f cell to count rank
    → InputsUnder f vm v1 → InputsUnder f vm v2
    → ((u : ℕ) → u < count → AreLimits (cell u) (w1 u) (wm u) (w2 u) (first u) (middle u) (last u))
    → Agree f cell to count v1 first → Agree f cell to count vm middle → Agree f cell to count v2 last
    → (s : List Trit) × (t : List Trit) × (u : List Trit) × AreLimits f v1 vm v2 s t u
    × IsGlued cell to count first s × IsGlued cell to count middle t × IsGlued cell to count last u

-- limits are determined
abbrev pub LimitsAreUnique : Type 0
LimitsAreUnique =
    (net : Circuit) (v1 vm v2 first middle last s t u : List Trit) → AreLimits net v1 vm v2 first middle last
    → AreLimits net v1 vm v2 s t u
    → (n : ℕ)
    → (value_at first n ≡ value_at s n) × (value_at middle n ≡ value_at t n)
    × (value_at last n ≡ value_at u n)

-- locality: a storage node of a part responds in the whole as it does in the part, under the values of the
-- part's own nodes
abbrev pub ResponsesAreLocal : Type 0
ResponsesAreLocal =
    (c f : Circuit) (to : ℕ → ℕ) (s t : List Trit) (n : ℕ) (v : Trit) → IsWellFormed c → IsWellFormed f
    → IsPart c f to
    → ((m : ℕ) → m < length c.nodes → value_at t (to m) ≡ value_at s m) → IsStorage c n
    → StorageResponse c s n v ↔ StorageResponse f t (to n) v
