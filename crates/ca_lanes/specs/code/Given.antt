-- What only proofs of code cite: what the good values of a cell's rows give for the vectors that are allowed.
use Rattle.std.specs.Prelude.{ℕ, zero, suc, ◌+◌, ◌≡◌, ◌<◌, Bool, true, false, List, get_or}
use Rattle.ca_net.specs.declared.trit.Trit.{Trit}
use Rattle.ca_lanes.specs.Choice.{Choice, no_choice}
use Rattle.ca_lanes.specs.code.Choice.{either_choice, choice_over, choice_with}
use Rattle.ca_lanes.specs.GoodRows.{good_at}

-- what the allowed ones of the vectors below this number give
unfoldable pub given_by : List Bool → (ℕ → Trit) → ℕ → Choice
given_by allowed value zero = no_choice
given_by allowed value (suc n) =
    choice_with (given_by allowed value n) (get_or allowed n false) (value n)

-- what the allowed rows of the first vectors below this number give
unfoldable pub given_by_rows : List Bool → List Bool → (ℕ → ℕ → Trit) → ℕ → ℕ → Choice
given_by_rows firsts lasts value count zero = no_choice
given_by_rows firsts lasts value count (suc n) =
    either_choice (given_by_rows firsts lasts value count n)
    (choice_over (get_or firsts n false) (given_by lasts (value n) count))

-- where a first vector is marked, its rows have the values of those of the next one
abbrev pub AreLikeNext : List Trit → ℕ → ℕ → List Bool → Type 0
AreLikeNext values count outputs like_next =
    (first last output : ℕ) → first + 1 < count → last < count → output < outputs
    → get_or like_next first false ≡ true
    → good_at values count outputs first last output ≡ good_at values count outputs (first + 1) last output
