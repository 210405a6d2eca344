-- The number of a definite vector: its vector is the vector again.
use Rattle.std.proofs.Common.{ℕ, zero, suc, ◌+◌, ◌*◌, ◌/◌, ◌%◌, ◌^◌, ◌<◌, ◌≤◌, ◌≡◌, refl, ap, ◌∙◌, List, []}
use Rattle.std.proofs.Common.{◌∷◌, length, arith, ◌≢◌, ◌==◌, Bool, true, false, cond}
use Rattle.std.specs.List.{All}
use Rattle.std.proofs.Math.Nat.{two-pow-succ, mul-add-div_right, mul-add-mod_self_left}
use Rattle.std.proofs.lemmas.Nat.{pow_pos, div-mul-add, mul-le}
use Rattle.std.proofs.lemmas.List.Elements.{All-nil, All-cons, All-head, All-tail}
use Rattle.ca_net.specs.declared.trit.Trit.{Trit}
use Rattle.ca_net.specs.declared.trit.Trit.TheVariants.{Zero, One, X}
use Rattle.ca_cell.specs.Row.{digit_value, vector_of}

-- the number of a definite vector
abbrev digit_of : Trit → ℕ
digit_of Zero = 0
digit_of One = 1
digit_of X = 0

abbrev pub number_of : List Trit → ℕ
number_of [] = 0
number_of (value ∷ values) = digit_of value * 2 ^ length values + number_of values

one_digit : (value : Trit) → digit_of value ≤ 1
one_digit Zero = omega arith
one_digit One = omega arith
one_digit X = omega arith

-- it is one of those of this many inputs
pub number_within : (values : List Trit) → number_of values < 2 ^ length values
number_within [] = omega arith
number_within (value ∷ values) =
    let rest = number_within values in
    let double = two-pow-succ (length values) in
    let digit = mul-le (digit_of value) (2 ^ length values) 1 (2 ^ length values) (one_digit value) (omega arith) in
    omega arith

-- higher digits don't count
low_digits : (count high low : ℕ) → vector_of count (high * 2 ^ count + low) ≡ vector_of count low
low_digits zero high low = refl
low_digits (suc after) high low =
    let double = two-pow-succ after in
    let split : high * 2 ^ suc after + low ≡ (2 * high) * 2 ^ after + low = rw double (omega arith) in
    let quotient : ((2 * high) * 2 ^ after + low) / 2 ^ after ≡ 2 * high + low / 2 ^ after = mul-add-div_right (pow_pos after) (2 * high) low in
    let digit : ((2 * high) * 2 ^ after + low) / 2 ^ after % 2 ≡ low / 2 ^ after % 2 = rw quotient (mul-add-mod_self_left 2 high (low / 2 ^ after)) in
    rw (split, digit) (ap (λ rest. digit_value (low / 2 ^ after % 2) ∷ rest) (low_digits after (2 * high) low))

digit_again : (value : Trit) → value ≢ X → digit_value (digit_of value % 2) ≡ value
digit_again Zero definite = refl
digit_again One definite = refl
digit_again X definite = absurd (definite refl)

-- each definite vector is that of its number
pub vector_again : (values : List Trit) → All (λ value. value ≢ X) values → vector_of (length values) (number_of values) ≡ values
vector_again [] all = refl
vector_again (value ∷ values) all =
    let definite = All-head (λ v. v ≢ X) value values all in
    let rest = vector_again values (All-tail (λ v. v ≢ X) value values all) in
    let first : (digit_of value * 2 ^ length values + number_of values) / 2 ^ length values ≡ digit_of value =
    div-mul-add (digit_of value) (2 ^ length values) (number_of values) (number_within values) in
    let head : digit_value ((digit_of value * 2 ^ length values + number_of values) / 2 ^ length values % 2) ≡ value =
    ap (λ n. digit_value (n % 2)) first ∙ digit_again value definite in
    ap (λ v. v ∷ vector_of (length values) (digit_of value * 2 ^ length values + number_of values)) head
    ∙ ap (λ vs. value ∷ vs) (low_digits (length values) (digit_of value) (number_of values) ∙ rest)

-- a digit has a definite value
digit_definite : (digit : ℕ) → digit_value digit ≢ X
digit_definite digit is = by (digit == 0) is
  where
    by : (b : Bool) → cond b Zero One ≡ X → ⊥
    by true same = cc
    by false same = cc

-- the vector of a number is definite
pub vector_definite : (inputs number : ℕ) → All (λ value. value ≢ X) (vector_of inputs number)
vector_definite zero number = All-nil (λ v. v ≢ X)
vector_definite (suc after) number =
    All-cons (λ v. v ≢ X) (digit_value (number / 2 ^ after % 2)) (vector_of after number) (digit_definite (number / 2 ^ after % 2)) (vector_definite after number)
