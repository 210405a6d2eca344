-- How a partial pair looks from the last values of the waves of the observed nets.
use Rattle.std.specs.Prelude.{ℕ, ◌≡◌, ◌<◌, Bool, true, false, List, length, slice_index_or}
use Rattle.std.specs.List.{All, Any}
use Rattle.ca_net.specs.declared.trit.Trit.{Trit}
use Rattle.ca_net.specs.declared.trit.Trit.TheVariants.{Zero, One, X}
use Rattle.ca_response.specs.Gives.{wave_at}
use Rattle.ca_sim.specs.Seen.{Seen}
use Rattle.ca_search.specs.declared.judge.Standing.{Standing}
use Rattle.ca_search.specs.declared.judge.Standing.TheVariants.{Shown, Settled, Open}

-- one of the values is 0 and the other 1
abbrev pub are_opposite : Trit → Trit → Bool
are_opposite Zero Zero = false
are_opposite Zero One = true
are_opposite Zero X = false
are_opposite One Zero = true
are_opposite One One = false
are_opposite One X = false
are_opposite X faulty = false

-- both values are 0, or both 1
abbrev pub are_alike : Trit → Trit → Bool
are_alike Zero Zero = true
are_alike Zero One = false
are_alike Zero X = false
are_alike One Zero = false
are_alike One One = true
are_alike One X = false
are_alike X faulty = false

-- the waves end with opposite values at the net
abbrev pub is_opposite_at : Seen → ℕ → Bool
is_opposite_at seen net = are_opposite (wave_at seen.good net).last (wave_at seen.faulty net).last

-- they end with one value there
abbrev pub is_alike_at : Seen → ℕ → Bool
is_alike_at seen net = are_alike (wave_at seen.good net).last (wave_at seen.faulty net).last

-- at these nets the pair looks so
abbrev pub LooksSo : Seen → List ℕ → Standing → Type 0
LooksSo seen outputs Shown = Any (λ net. is_opposite_at seen net ≡ true) outputs
LooksSo seen outputs Settled = All (λ net. is_alike_at seen net ≡ true) outputs
LooksSo seen outputs Open = (Any (λ net. is_opposite_at seen net ≡ true) outputs → ⊥)
    × (All (λ net. is_alike_at seen net ≡ true) outputs → ⊥)

-- at none of the first `count` nets do they end with opposite values
abbrev pub IsNoneOppositeBelow : Seen → ℕ → List ℕ → Type 0
IsNoneOppositeBelow seen count nets = (k : ℕ) (d : ℕ) → k < count → k < length nets
    → is_opposite_at seen (slice_index_or nets k d) ≡ true → ⊥

-- at each of the first `count` they end with one value
abbrev pub AreAlikeBelow : Seen → ℕ → List ℕ → Type 0
AreAlikeBelow seen count nets = (k : ℕ) (d : ℕ) → k < count → k < length nets
    → is_alike_at seen (slice_index_or nets k d) ≡ true
