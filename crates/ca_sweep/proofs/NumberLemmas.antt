-- The number of a vector, pin by pin.
use Rattle.std.proofs.Common.{◌≡◌, ◌≢◌, ℕ, zero, suc, ◌+◌, ◌*◌, ◌^◌, ◌<◌, List, [], ◌∷◌, ◌++◌, length, refl, sym, ◌∙◌, ap, subst, arith}
use Rattle.std.proofs.Common.{length-append}
use Rattle.std.specs.List.{All}
use Rattle.std.proofs.Math.Nat.{two-pow-succ}
use Rattle.std.proofs.lemmas.List.Elements.{All-nil, All-push}
use Rattle.ca_net.specs.declared.trit.Trit.{Trit}
use Rattle.ca_net.specs.declared.trit.Trit.TheVariants.{Zero, One, X}
use Rattle.ca_cell.specs.Row.{vector_of}
use Rattle.ca_cell.proofs.NumberLemmas.{number_of, number_within, vector_again}
use Rattle.ca_flat.specs.Pair.{values_from}
use Rattle.ca_sweep.specs.code.Changes.{IsNumberOf}

-- the number is that of the values of the first `end` pins, which are definite
pub record IsNumberTo (value : ℕ → Trit) (end number : ℕ) : Type 0 where
  pub is : number ≡ number_of (values_from value 0 end)
  pub definite : All (λ v. v ≢ X) (values_from value 0 end)

pub number_none : (value : ℕ → Trit) → IsNumberTo value 0 0
unfolding values_from
number_none value = record { is = refl; definite = All-nil (λ v. v ≢ X) }

length-values_from : (value : ℕ → Trit) (j k : ℕ) → length (values_from value j k) ≡ k
unfolding values_from
length-values_from value j zero = refl
length-values_from value j (suc k) = ap suc (length-values_from value (j + 1) k)

-- one value more, at the end
values_more : (value : ℕ → Trit) (j k : ℕ) → values_from value j (suc k) ≡ values_from value j k ++ (value (j + k) ∷ [])
unfolding values_from
values_more value j zero = ap (λ n. value n ∷ []) (let e : j ≡ j + 0 = omega arith in e)
values_more value j (suc k) = ap (λ vs. value j ∷ vs) (values_more value (j + 1) k
    ∙ ap (λ n. values_from value (j + 1) k ++ (value n ∷ [])) (let e : j + 1 + k ≡ j + suc k = omega arith in e))

doubled : (d m k digit : ℕ) → d * (2 * m) + (2 * k + digit) ≡ 2 * (d * m + k) + digit
doubled d m k digit = omega arith

number_zero : (values : List Trit) → number_of (values ++ (Zero ∷ [])) ≡ 2 * number_of values
number_zero [] = refl
number_zero (value ∷ values) =
    let more : length (values ++ (Zero ∷ [])) ≡ suc (length values) = length-append values (Zero ∷ []) ∙ (let e : length values + 1 ≡ suc (length values) = omega arith in e) in
    rw (more, two-pow-succ (length values), number_zero values) (omega arith)

number_one : (values : List Trit) → number_of (values ++ (One ∷ [])) ≡ 2 * number_of values + 1
number_one [] = refl
number_one (value ∷ values) =
    let more : length (values ++ (One ∷ [])) ≡ suc (length values) = length-append values (One ∷ []) ∙ (let e : length values + 1 ≡ suc (length values) = omega arith in e) in
    rw (more, two-pow-succ (length values), number_one values) (omega arith)

pub number_more : (value : ℕ → Trit) (end number new : ℕ) → IsNumberTo value end number → value end ≢ X
    → new ≡ number_of (values_from value 0 end ++ (value end ∷ [])) → IsNumberTo value (end + 1) new
number_more value end number new so_far definite is =
    let one_more : values_from value 0 end ++ (value end ∷ []) ≡ values_from value 0 (end + 1) =
    ap (λ n. values_from value 0 end ++ (value n ∷ [])) (let e : end ≡ 0 + end = omega arith in e) ∙ sym (values_more value 0 end) ∙ ap (values_from value 0) (let e : suc end ≡ end + 1 = omega arith in e) in
    record {
      is = is ∙ ap number_of one_more;
      definite = subst (All (λ v. v ≢ X)) one_more (All-push (λ v. v ≢ X) (values_from value 0 end) (value end) so_far.definite definite);
    }

pub number_more_zero : (value : ℕ → Trit) (end number new : ℕ) → IsNumberTo value end number → value end ≡ Zero → new ≡ number * 2 → IsNumberTo value (end + 1) new
number_more_zero value end number new so_far at is = number_more value end number new so_far (λ e. let k : Zero ≡ X = sym at ∙ e in cc)
    (ap (λ n. n) is ∙ (let e = so_far.is in let z = number_zero (values_from value 0 end) in omega arith)
    ∙ ap (λ v. number_of (values_from value 0 end ++ (v ∷ []))) (sym at))

pub number_more_one : (value : ℕ → Trit) (end number new : ℕ) → IsNumberTo value end number → value end ≡ One → new ≡ 2 * number + 1 → IsNumberTo value (end + 1) new
number_more_one value end number new so_far at is = number_more value end number new so_far (λ e. let k : One ≡ X = sym at ∙ e in cc)
    (is ∙ (let e = so_far.is in let z = number_one (values_from value 0 end) in omega arith)
    ∙ ap (λ v. number_of (values_from value 0 end ++ (v ∷ []))) (sym at))

-- it is below the power of two
pub number_below : (value : ℕ → Trit) (end number : ℕ) → IsNumberTo value end number → number < 2 ^ end
number_below value end number so_far = subst (λ n. n < 2 ^ end) (sym so_far.is)
    (subst (λ n. number_of (values_from value 0 end) < 2 ^ n) (length-values_from value 0 end) (number_within (values_from value 0 end)))

-- all pins
pub number_all : (value : ℕ → Trit) (end number : ℕ) → IsNumberTo value end number → IsNumberOf end (values_from value 0 end) number
number_all value end number so_far = record {
  within = number_below value end number so_far;
  vector_is = ap (vector_of end) so_far.is ∙ ap (λ n. vector_of n (number_of (values_from value 0 end))) (sym (length-values_from value 0 end))
      ∙ vector_again (values_from value 0 end) so_far.definite;
}

-- six pins have small numbers
pub number_small : (value : ℕ → Trit) (end number : ℕ) → IsNumberTo value end number → end < 6 → number < 64
number_small value zero number so_far less = let n = number_below value 0 number so_far in omega arith
number_small value (suc zero) number so_far less = let n = number_below value 1 number so_far in omega arith
number_small value (suc (suc zero)) number so_far less = let n = number_below value 2 number so_far in omega arith
number_small value (suc (suc (suc zero))) number so_far less = let n = number_below value 3 number so_far in omega arith
number_small value (suc (suc (suc (suc zero)))) number so_far less = let n = number_below value 4 number so_far in omega arith
number_small value (suc (suc (suc (suc (suc zero))))) number so_far less = let n = number_below value 5 number so_far in omega arith
number_small value (suc (suc (suc (suc (suc (suc more)))))) number so_far less = absurd (omega arith)
