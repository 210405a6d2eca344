-- What is read of the digits of a number.
use Rattle.std.proofs.Common.{◌≡◌, ◌≢◌, ℕ, zero, suc, ◌<◌, ◌≤◌, ◌^◌, ◌∙◌, Bool, true, false, List, subst, sym, arith, refl}
use Rattle.std.proofs.Common.{IsUtf8, ap, true≢false}
use Rattle.std.specs.Prelude.{Some, None, Result, Ok, if◌then◌else◌}
use Rattle.std.specs.Fmt.{decimal}
use Rattle.std.specs.Str.{bytes_eq}
use Rattle.std.specs.Str.Parse.{ParsesUnsigned}
use Rattle.std.proofs.lemmas.Fmt.{parse-decimal, IsAscii-decimal, decimal_injective}
use Rattle.std.proofs.lemmas.Slice.Eq.{bytes_eq-Decides}
use Rattle.std.proofs.lemmas.Str.{IsUtf8-from_ascii}
use Rattle.ca_strengths.specs.StrengthText.{number_up_to}
use Rattle.ca_csv.specs.Fields.{IsNumber, IsNoNumber}

-- the digits of a number are those of none but it
pub up_to_found : (most : ℕ) (word : List ℕ) (number : ℕ) → most < 2 ^ 32 → 1 ≤ number → number ≤ most
    → IsNumber word number → number_up_to most word ≡ Some number
unfolding number_up_to
up_to_found zero word number few some within is = absurd (omega (arith, some, within))
up_to_found (suc most) word number few some within is =
    by (bytes_eq word (decimal (suc most))) refl
    (λ less. up_to_found most word number (omega (arith, few)) some less is)
  where
    same : word ≡ decimal (suc most) → number ≡ suc most
    same written = decimal_injective number (suc most) (omega (arith, few, within)) (omega (arith, few)) (sym is.1 ∙ written)

    differ : bytes_eq word (decimal (suc most)) ≡ false → number ≡ suc most → ⊥
    differ failed equal = true≢false (sym ((bytes_eq-Decides word (decimal (suc most))).1 (is.1 ∙ ap decimal equal)) ∙ failed)

    by : (test : Bool) → bytes_eq word (decimal (suc most)) ≡ test → (number ≤ most → number_up_to most word ≡ Some number)
        → (if test then Some (suc most) else number_up_to most word) ≡ Some number
    by true passed rest = ap Some (sym (same ((bytes_eq-Decides word (decimal (suc most))).0 passed)))
    by false failed rest = let other : number ≢ suc most = differ failed in rest (omega (arith, within, other))

-- where the digits are those of no number from 1 to the greatest, there is none
none_up_to : (most : ℕ) (word : List ℕ) → ((number : ℕ) → 1 ≤ number → number ≤ most → word ≡ decimal number → ⊥)
    → number_up_to most word ≡ None
unfolding number_up_to
none_up_to zero word none = refl
none_up_to (suc most) word none =
    by (bytes_eq word (decimal (suc most))) refl
    (none_up_to most word (λ number some within. none number some (omega (arith, within))))
  where
    by : (test : Bool) → bytes_eq word (decimal (suc most)) ≡ test → number_up_to most word ≡ None
        → (if test then Some (suc most) else number_up_to most word) ≡ None
    by true passed rest = absurd (none (suc most) (omega arith) (omega arith) ((bytes_eq-Decides word (decimal (suc most))).0 passed))
    by false failed rest = rest

-- a number outside these bounds
outside_none : (most : ℕ) (word : List ℕ) (number : ℕ) → most < 2 ^ 32 → (1 ≤ number → number ≤ most → ⊥) → IsNumber word number
    → number_up_to most word ≡ None
outside_none most word number few outside is = none_up_to most word (λ other some within written.
    let few_number = is.0 in
    let same = decimal_injective other number (omega (arith, few, within)) (omega (arith, few_number)) (sym written ∙ is.1) in
    outside (omega (arith, same, some)) (omega (arith, same, within)))

pub past_none : (most : ℕ) (word : List ℕ) (number : ℕ) → most < 2 ^ 32 → most < number → IsNumber word number
    → number_up_to most word ≡ None
past_none most word number few past is = outside_none most word number few (λ some within. omega (arith, past, within)) is

pub zero_none : (most : ℕ) (word : List ℕ) (number : ℕ) → most < 2 ^ 32 → number < 1 → IsNumber word number
    → number_up_to most word ≡ None
zero_none most word number few low is = outside_none most word number few (λ some within. omega (arith, low, some)) is

pub no_number_none : (most : ℕ) (word : List ℕ) → most < 2 ^ 32 → IsNoNumber word → number_up_to most word ≡ None
no_number_none most word few none = none_up_to most word (λ number some within. none number (omega (arith, few, within)))
