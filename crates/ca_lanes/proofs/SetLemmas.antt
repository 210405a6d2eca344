-- One input net more.
use Rattle.std.proofs.Common.{◌≡◌, ◌≢◌, ℕ, zero, suc, ◌+◌, ◌<◌, ◌≤◌, ◌==◌, if◌then◌else◌, Bool, true, false}
use Rattle.std.proofs.Common.{List, [], ◌∷◌, get_or, length, map, drop, inl, inr, refl, sym, ap, ◌∙◌, subst}
use Rattle.std.proofs.Common.{arith}
use Rattle.std.specs.Prelude.{slice_set, slice_get, Some}
use Rattle.std.proofs.lemmas.Bool.{cases_lt, eqb-true, eqb-false}
use Rattle.std.proofs.Math.Seq.{drop-cons}
use Rattle.std.proofs.lemmas.List.{map-set, get_or-set_same, get_or-set_other, length-map}
use Rattle.ca_lanes.specs.declared.plane.Plane.{Plane}
use Rattle.ca_lanes.specs.declared.values.Values.{Values}
use Rattle.ca_flat.specs.Codes.{bit_trit}
use Rattle.ca_lanes.specs.Plane.{lane_of}
use Rattle.ca_lanes.specs.Choice.{Choice, no_choice, choice_of, choice_for, choices_of}
use Rattle.ca_lanes.specs.code.Choice.{choice_over, unknown}
use Rattle.ca_lanes.specs.Choice.{choice_at}
use Rattle.ca_lanes.specs.code.Set.{bit_choice, input_choice}
use Rattle.ca_net.specs.State.{value_at}
use Rattle.ca_flat.specs.Pair.{input_value}

pub set_here : (nets : List Values) (n lane : ℕ) (value : Values) → n < length nets → choice_at (choices_of (slice_set nets n value) lane) n ≡ choice_of value lane
set_here nets n lane value within =
    ap (λ list. choice_at list n) (map-set (λ net. choice_of net lane) nets n value)
    ∙ get_or-set_same (choices_of nets lane) n (choice_of value lane) no_choice (subst (λ k. n < k) (sym (length-map nets (λ net. choice_of net lane))) within)

pub set_elsewhere : (nets : List Values) (n net lane : ℕ) (value : Values) → net ≢ n → choice_at (choices_of (slice_set nets n value) lane) net ≡ choice_at (choices_of nets lane) net
set_elsewhere nets n net lane value apart =
    ap (λ list. choice_at list net) (map-set (λ each. choice_of each lane) nets n value) ∙ get_or-set_other (choices_of nets lane) n net (choice_of value lane) no_choice apart

over_unknown : (loaded : Bool) → record { zero = loaded; one = loaded } ≡ choice_over loaded unknown
over_unknown true = refl
over_unknown false = refl

-- one net more is unknown
pub forget_more : (nets : List Values) (n lane net : ℕ) (loaded : Plane) → n < length nets → net < n + 1
    → (net < n → choice_at (choices_of nets lane) net ≡ choice_over (lane_of loaded lane) unknown)
    → choice_at (choices_of (slice_set nets n (record { zero = loaded; one = loaded })) lane) net ≡ choice_over (lane_of loaded lane) unknown
forget_more nets n lane net loaded within less before = elim (cases_lt net n) [
  | inl earlier ↦ set_elsewhere nets n net lane (record { zero = loaded; one = loaded }) (λ same. let no : ⊥ = omega (arith, earlier, same) in no) ∙ before earlier
  | inr past ↦
      let same : net ≡ n = omega (arith, less, past) in
      ap (choice_at (choices_of (slice_set nets n (record { zero = loaded; one = loaded })) lane)) same
      ∙ set_here nets n lane (record { zero = loaded; one = loaded }) within ∙ over_unknown (lane_of loaded lane)
]

-- one input more is set
pub input_more : (inputs : List ℕ) (pairs : List (List Bool)) (bit place lane net : ℕ) (nets : List Values) (old : Choice) (value : Values) → place < length inputs
    → get_or inputs place 0 < length nets → choice_of value lane ≡ bit_choice pairs (bit + place) lane
    → choice_at (choices_of nets lane) net ≡ input_choice (drop (suc place) inputs) pairs (bit + place + 1) lane net old
    → choice_at (choices_of (slice_set nets (get_or inputs place 0) value) lane) net ≡ input_choice (drop place inputs) pairs (bit + place) lane net old
input_more inputs pairs bit place lane net nets old value known within is before =
    at (net == get_or inputs place 0) refl ∙ ap (λ list. input_choice list pairs (bit + place) lane net old) (sym (drop-cons inputs place 0 known))
  where
    at : (b : Bool) → (net == get_or inputs place 0) ≡ b → choice_at (choices_of (slice_set nets (get_or inputs place 0) value) lane) net
        ≡ input_choice (get_or inputs place 0 ∷ drop (suc place) inputs) pairs (bit + place) lane net old
    at true e =
        let same : net ≡ get_or inputs place 0 = eqb-true net (get_or inputs place 0) e in
        ap (choice_at (choices_of (slice_set nets (get_or inputs place 0) value) lane)) same ∙ set_here nets (get_or inputs place 0) lane value within ∙ is
        ∙ ap (λ b. if b then bit_choice pairs (bit + place) lane else input_choice (drop (suc place) inputs) pairs (bit + place + 1) lane net old) (sym e)
    at false e =
        set_elsewhere nets (get_or inputs place 0) net lane value (eqb-false net (get_or inputs place 0) e) ∙ before
        ∙ ap (λ b. if b then bit_choice pairs (bit + place) lane else input_choice (drop (suc place) inputs) pairs (bit + place + 1) lane net old) (sym e)

bit_of : (pairs : List (List Bool)) (pair : List Bool) (place lane : ℕ) → slice_get pairs lane ≡ Some pair → place < length pair
    → bit_choice pairs place lane ≡ choice_for (value_at (map bit_trit pair) place)
bit_of [] pair place lane there within = let no : ⊥ = cc in absurd no
bit_of (first ∷ pairs) pair place zero there within =
    let same : first ≡ pair = some_same first pair there in
    ap (λ p. choice_for (bit_trit (get_or p place false))) same ∙ ap choice_for (sym (trit_read pair place within))
  where
    some_same : (a b : List Bool) → Some a ≡ Some b → a ≡ b
    some_same a b e = cc

    trit_read : (bits : List Bool) (k : ℕ) → k < length bits → value_at (map bit_trit bits) k ≡ bit_trit (get_or bits k false)
    trit_read [] k within = let no : ⊥ = omega (arith, within) in absurd no
    trit_read (bit ∷ bits) zero within = refl
    trit_read (bit ∷ bits) (suc k) within = trit_read bits k (omega (arith, within))
bit_of (first ∷ pairs) pair place (suc lane) there within = bit_of pairs pair place lane there within

-- an unknown net that is set to the pair's bits has the pair's value
pub inputs_are : (inputs : List ℕ) (pairs : List (List Bool)) (pair : List Bool) (bit lane net : ℕ) → slice_get pairs lane ≡ Some pair → bit + length inputs ≤ length pair
    → input_choice inputs pairs bit lane net unknown ≡ choice_for (input_value inputs (map bit_trit pair) bit net)
inputs_are [] pairs pair bit lane net there enough = refl
inputs_are (input ∷ inputs) pairs pair bit lane net there enough =
    at (net == input) (bit_of pairs pair bit lane there (omega (arith, enough))) (inputs_are inputs pairs pair (bit + 1) lane net there (omega (arith, enough)))
  where
    at : (b : Bool) → bit_choice pairs bit lane ≡ choice_for (value_at (map bit_trit pair) bit)
        → input_choice inputs pairs (bit + 1) lane net unknown ≡ choice_for (input_value inputs (map bit_trit pair) (bit + 1) net)
        → (if b then bit_choice pairs bit lane else input_choice inputs pairs (bit + 1) lane net unknown)
        ≡ choice_for (if b then value_at (map bit_trit pair) bit else input_value inputs (map bit_trit pair) (bit + 1) net)
    at true here later = here
    at false here later = later
