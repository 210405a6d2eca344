-- The mask of a vector is set in a lane exactly where the vector is at or above the pins' values there.
use Rattle.std.proofs.Common.{◌≡◌, ◌≢◌, ℕ, zero, suc, ◌-◌, ◌^◌, ◌<◌, ◌≤◌, Bool, true, false, ◌&&◌, List, []}
use Rattle.std.proofs.Common.{◌∷◌, get_or, length, map, inl, inr, refl, sym, ap, ◌∙◌, subst, arith}
use Rattle.std.specs.List.{All}
use Rattle.std.proofs.lemmas.Bool.{cases_lt}
use Rattle.std.proofs.Math.Nat.{two-pow-succ}
use Rattle.std.proofs.lemmas.List.{get_or_append_left, get_or-append_right, length-append, length-map}
use Rattle.std.proofs.lemmas.List.Elements.{All-nil, All-cons, All-head, All-tail}
use Rattle.ca_net.specs.declared.trit.Trit.{Trit}
use Rattle.ca_net.specs.declared.trit.Trit.TheVariants.{Zero, One, X}
use Rattle.ca_net.specs.Trit.{IsBelow}
use Rattle.ca_cell.proofs.NumberLemmas.{number_of, number_within}
use Rattle.ca_lanes.specs.Choice.{Choice, choice_for}
use Rattle.ca_lanes.specs.code.Allowed.{doubled, allowed_by}

-- the masks in a loaded lane in which the pins have these values
abbrev pub allowed_for : List Trit → List Bool
allowed_for values = allowed_by true (map choice_for values)

-- each value is below the vector's
abbrev pub AreBelow : List Trit → List Trit → Type 0
AreBelow [] [] = Unit {0}
AreBelow [] (v ∷ vector) = ⊥
AreBelow (value ∷ values) [] = ⊥
AreBelow (value ∷ values) (v ∷ vector) = IsBelow value v × AreBelow values vector

pub length-allowed_by : (loaded : Bool) (pins : List Choice) → length (allowed_by loaded pins) ≡ 2 ^ length pins
length-allowed_by loaded [] = refl
length-allowed_by loaded (pin ∷ pins) =
    let rest = length-allowed_by loaded pins in
    let zeros = length-map (allowed_by loaded pins) (λ allowed. pin.zero && allowed) in
    let ones = length-map (allowed_by loaded pins) (λ allowed. pin.one && allowed) in
    let both = length-append (map (λ allowed. pin.zero && allowed) (allowed_by loaded pins)) (map (λ allowed. pin.one && allowed) (allowed_by loaded pins)) in
    let double = two-pow-succ (length pins) in
    omega (arith, rest, zeros, ones, both, double)

half_at : (bit : Bool) (later : List Bool) (n : ℕ) → get_or (map (λ allowed. bit && allowed) later) n false ≡ (bit && get_or later n false)
half_at true [] n = refl
half_at false [] n = refl
half_at bit (first ∷ later) zero = refl
half_at bit (first ∷ later) (suc n) = half_at bit later n

-- a vector that begins with 0
pub in_zeros : (pin : Choice) (later : List Bool) (n : ℕ) → n < length later → get_or (doubled pin later) n false ≡ (pin.zero && get_or later n false)
in_zeros pin later n within =
    let fits : n < length (map (λ allowed. pin.zero && allowed) later) = subst (λ k. n < k) (sym (length-map later (λ allowed. pin.zero && allowed))) within in
    get_or_append_left (map (λ allowed. pin.zero && allowed) later) (map (λ allowed. pin.one && allowed) later) false n fits ∙ half_at pin.zero later n

-- one that begins with 1
pub in_ones : (pin : Choice) (later : List Bool) (n : ℕ) → length later ≤ n → get_or (doubled pin later) n false ≡ (pin.one && get_or later (n - length later) false)
in_ones pin later n past =
    get_or-append_right (map (λ allowed. pin.zero && allowed) later) (map (λ allowed. pin.one && allowed) later) (length later) n false
    (length-map later (λ allowed. pin.zero && allowed)) past
    ∙ half_at pin.one later (n - length later)

may_be_zero : (value : Trit) → IsBelow value Zero → (choice_for value).zero ≡ true
may_be_zero Zero below = refl
may_be_zero X below = refl
may_be_zero One (inl e) = let no : ⊥ = cc in absurd no
may_be_zero One (inr e) = let no : ⊥ = cc in absurd no

may_be_one : (value : Trit) → IsBelow value One → (choice_for value).one ≡ true
may_be_one One below = refl
may_be_one X below = refl
may_be_one Zero (inl e) = let no : ⊥ = cc in absurd no
may_be_one Zero (inr e) = let no : ⊥ = cc in absurd no

below_zero : (value : Trit) → (choice_for value).zero ≡ true → IsBelow value Zero
below_zero Zero may = inr refl
below_zero X may = inl refl
below_zero One may = let no : ⊥ = cc in absurd no

below_one : (value : Trit) → (choice_for value).one ≡ true → IsBelow value One
below_one One may = inr refl
below_one X may = inl refl
below_one Zero may = let no : ⊥ = cc in absurd no

pub length_below : (xs ys : List Trit) → AreBelow xs ys → length xs ≡ length ys
length_below [] [] h = refl
length_below [] (y ∷ ys) h = absurd h
length_below (x ∷ xs) [] h = absurd h
length_below (x ∷ xs) (y ∷ ys) h = ap suc (length_below xs ys h.1)

-- a vector at or above the values is allowed
pub over_is_allowed : (values vector : List Trit) → All (λ v. v ≢ X) vector → AreBelow values vector → get_or (allowed_for values) (number_of vector) false ≡ true
over_is_allowed [] [] definite below = refl
over_is_allowed [] (v ∷ vector) definite below = absurd below
over_is_allowed (value ∷ values) [] definite below = absurd below
over_is_allowed (value ∷ values) (v ∷ vector) definite below =
    at (over_is_allowed values vector (All-tail (λ t. t ≢ X) v vector definite) below.1) v refl
  where
    count : length (allowed_for values) ≡ 2 ^ length vector
    count = length-allowed_by true (map choice_for values) ∙ ap (λ n. 2 ^ n) (length-map values choice_for ∙ length_below values vector below.1)

    at : get_or (allowed_for values) (number_of vector) false ≡ true → (t : Trit) → t ≡ v → get_or (allowed_for (value ∷ values)) (number_of (v ∷ vector)) false ≡ true
    at rest X e = absurd (All-head (λ t. t ≢ X) v vector definite (sym e))
    at rest Zero e =
        let within = number_within vector in
        let number : number_of (Zero ∷ vector) ≡ number_of vector = omega arith in
        subst (λ t. get_or (allowed_for (value ∷ values)) (number_of (t ∷ vector)) false ≡ true) e
        (ap (λ n. get_or (allowed_for (value ∷ values)) n false) number
        ∙ in_zeros (choice_for value) (allowed_for values) (number_of vector) (omega (arith, within, count))
        ∙ rw (may_be_zero value (subst (IsBelow value) (sym e) below.0), rest) refl)
    at rest One e =
        let within = number_within vector in
        let past : length (allowed_for values) ≤ number_of (One ∷ vector) = omega (arith, count) in
        let number : number_of (One ∷ vector) - length (allowed_for values) ≡ number_of vector = omega (arith, count) in
        subst (λ t. get_or (allowed_for (value ∷ values)) (number_of (t ∷ vector)) false ≡ true) e
        (in_ones (choice_for value) (allowed_for values) (number_of (One ∷ vector)) past
        ∙ ap (λ n. (choice_for value).one && get_or (allowed_for values) n false) number
        ∙ rw (may_be_one value (subst (IsBelow value) (sym e) below.0), rest) refl)

-- a definite vector at or above the values, with this number
pub record HasVector (values : List Trit) (n : ℕ) : Type 0 where
  pub vector : List Trit
  pub definite : All (λ v. v ≢ X) vector
  pub below : AreBelow values vector
  pub number : number_of vector ≡ n

and_first : (a b : Bool) → (a && b) ≡ true → a ≡ true
and_first true b h = refl
and_first false b h = h

and_second : (a b : Bool) → (a && b) ≡ true → b ≡ true
and_second true b h = h
and_second false b h = let no : ⊥ = cc in absurd no

-- what is allowed is such a vector
pub allowed_is_over : (values : List Trit) (n : ℕ) → get_or (allowed_for values) n false ≡ true → HasVector values n
allowed_is_over [] zero allowed = record { vector = []; definite = All-nil (λ v. v ≢ X); below = tt; number = refl }
allowed_is_over [] (suc n) allowed = let no : ⊥ = cc in absurd no
allowed_is_over (value ∷ values) n allowed = elim (cases_lt n (length (allowed_for values))) [
  | inl within ↦
      let both = sym (in_zeros (choice_for value) (allowed_for values) n within) ∙ allowed in
      let later = allowed_is_over values n (and_second (choice_for value).zero _ both) in
      record {
        vector = Zero ∷ later.vector;
        definite = All-cons (λ v. v ≢ X) Zero later.vector zero_definite later.definite;
        below = (below_zero value (and_first (choice_for value).zero _ both), later.below);
        number = let e : number_of (Zero ∷ later.vector) ≡ number_of later.vector = omega arith in e ∙ later.number;
      }
  | inr past ↦
      let both = sym (in_ones (choice_for value) (allowed_for values) n past) ∙ allowed in
      let later = allowed_is_over values (n - length (allowed_for values)) (and_second (choice_for value).one _ both) in
      let count : length (allowed_for values) ≡ 2 ^ length later.vector =
      length-allowed_by true (map choice_for values) ∙ ap (λ k. 2 ^ k) (length-map values choice_for ∙ length_below values later.vector later.below) in
      record {
        vector = One ∷ later.vector;
        definite = All-cons (λ v. v ≢ X) One later.vector one_definite later.definite;
        below = (below_one value (and_first (choice_for value).one _ both), later.below);
        number = omega (arith, count, later.number, past);
      }
]
  where
    zero_definite : Zero ≢ X
    zero_definite e = cc

    one_definite : One ≢ X
    one_definite e = cc

abbrev filled : Trit → Trit
filled Zero = Zero
filled One = One
filled X = Zero

filled_above : (value : Trit) → IsBelow value (filled value)
filled_above Zero = inr refl
filled_above One = inr refl
filled_above X = inl refl

filled_definite : (value : Trit) → filled value ≢ X
filled_definite Zero e = cc
filled_definite One e = cc
filled_definite X e = cc

-- some vector is at or above the values: the one with 0 where a value isn't known
pub record SomeVector (values : List Trit) : Type 0 where
  pub vector : List Trit
  pub definite : All (λ v. v ≢ X) vector
  pub below : AreBelow values vector

pub some_vector : (values : List Trit) → SomeVector values
some_vector [] = record { vector = []; definite = All-nil (λ v. v ≢ X); below = tt }
some_vector (value ∷ values) =
    let later = some_vector values in
    record {
      vector = filled value ∷ later.vector;
      definite = All-cons (λ v. v ≢ X) (filled value) later.vector (filled_definite value) later.definite;
      below = (filled_above value, later.below);
    }
