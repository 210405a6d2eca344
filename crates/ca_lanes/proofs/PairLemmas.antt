-- The lanes of pairs, one pair more.
use Rattle.std.proofs.Common.{◌≡◌, ◌≢◌, ℕ, zero, suc, ◌+◌, ◌<◌, ◌==◌, ◌||◌, Bool, true, false, List, [], ◌∷◌}
use Rattle.std.proofs.Common.{get_or, length, take, refl, sym, ap, ◌∙◌, arith, add-one}
use Rattle.std.specs.Prelude.{slice_get, Some}
use Rattle.std.proofs.lemmas.Bool.{eqb-true, eqb-false}
use Rattle.ca_flat.specs.Codes.{bit_trit}
use Rattle.ca_lanes.specs.Choice.{Choice, no_choice, choice_for}
use Rattle.ca_lanes.specs.code.Choice.{choice_with}
use Rattle.ca_lanes.specs.code.Set.{bit_choice}
use Rattle.ca_lanes.proofs.RowLemmas.{either_none}

-- a bit that is there
pub bit_read : (pair : List Bool) (place : ℕ) (bit : Bool) → slice_get pair place ≡ Some bit → bit ≡ get_or pair place false
bit_read [] place bit there = let no : ⊥ = cc in absurd no
bit_read (first ∷ pair) zero bit there = cc
bit_read (first ∷ pair) (suc place) bit there = bit_read pair place bit there

none_yet : (pairs : List (List Bool)) (place n : ℕ) → bit_choice (take n pairs) place n ≡ no_choice
none_yet [] place zero = refl
none_yet [] place (suc n) = refl
none_yet (pair ∷ pairs) place zero = refl
none_yet (pair ∷ pairs) place (suc n) = none_yet pairs place n

own_lane : (pairs : List (List Bool)) (place n : ℕ) (pair : List Bool) → n < length pairs → pair ≡ get_or pairs n pair
    → choice_for (bit_trit (get_or pair place false)) ≡ bit_choice (take (suc n) pairs) place n
own_lane [] place n pair within is = let no : ⊥ = omega (arith, within) in absurd no
own_lane (first ∷ pairs) place zero pair within is = ap (λ p. choice_for (bit_trit (get_or p place false))) is
own_lane (first ∷ pairs) place (suc n) pair within is = own_lane pairs place n pair (omega (arith, within)) is

other_lane : (pairs : List (List Bool)) (place n lane : ℕ) → lane ≢ n → bit_choice (take n pairs) place lane ≡ bit_choice (take (suc n) pairs) place lane
other_lane [] place zero lane apart = refl
other_lane [] place (suc n) lane apart = refl
other_lane (pair ∷ pairs) place zero zero apart = absurd (apart refl)
other_lane (pair ∷ pairs) place zero (suc lane) apart = refl
other_lane (pair ∷ pairs) place (suc n) zero apart = refl
other_lane (pair ∷ pairs) place (suc n) (suc lane) apart = other_lane pairs place n lane (λ e. apart (ap suc e))

pub one_pair_more : (pairs : List (List Bool)) (place n lane : ℕ) (pair : List Bool) (bit only : Bool) (found next : Choice) → n < length pairs → pair ≡ get_or pairs n pair
    → bit ≡ get_or pair place false → only ≡ ((lane == n) || false) → found ≡ bit_choice (take n pairs) place lane
    → next ≡ choice_with found only (bit_trit bit) → next ≡ bit_choice (take (n + 1) pairs) place lane
one_pair_more pairs place n lane pair bit only found next within is bit_is only_is before with =
    with ∙ at (lane == n) refl ∙ ap (λ m. bit_choice (take m pairs) place lane) (sym (add-one n))
  where
    at : (b : Bool) → (lane == n) ≡ b → choice_with found only (bit_trit bit) ≡ bit_choice (take (suc n) pairs) place lane
    at true e =
        let same : lane ≡ n = eqb-true lane n e in
        let none : found ≡ no_choice = before ∙ ap (bit_choice (take n pairs) place) same ∙ none_yet pairs place n in
        let here : only ≡ true = only_is ∙ ap (λ b. b || false) e in
        ap (λ c. choice_with c only (bit_trit bit)) none ∙ ap (λ b. choice_with no_choice b (bit_trit bit)) here
        ∙ ap (λ b. choice_for (bit_trit b)) bit_is ∙ own_lane pairs place n pair within is ∙ ap (bit_choice (take (suc n) pairs) place) (sym same)
    at false e =
        let not_here : only ≡ false = only_is ∙ ap (λ b. b || false) e in
        ap (λ b. choice_with found b (bit_trit bit)) not_here ∙ either_none found (choice_for (bit_trit bit)) ∙ before
        ∙ other_lane pairs place n lane (eqb-false lane n e)
