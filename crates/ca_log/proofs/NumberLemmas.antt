-- What is read of the digits of a number.
use Rattle.std.proofs.Common.{◌≡◌, ◌≢◌, ℕ, zero, suc, ◌<◌, ◌≤◌, ◌^◌, ◌∙◌, Bool, true, false, List, subst, sym, arith, refl}
use Rattle.std.proofs.Common.{IsUtf8, ap, true≢false}
use Rattle.std.specs.Prelude.{Some, None, Result, Ok, if◌then◌else◌}
use Rattle.std.specs.Fmt.{decimal}
use Rattle.std.specs.Str.{bytes_eq}
use Rattle.std.specs.Str.Parse.{ParsesUnsigned}
use Rattle.std.proofs.lemmas.Fmt.{parse-decimal, IsAscii-decimal, decimal_injective}
use Rattle.std.proofs.lemmas.Slice.Eq.{bytes_eq-Decides}
use Rattle.std.proofs.lemmas.Str.{IsUtf8-from_ascii}
use Rattle.ca_log.specs.LogText.{number_below}
use Rattle.ca_csv.specs.Fields.{IsNumber, IsNoNumber}

-- the digits of a number are those of none but it
pub below_found : (count : ℕ) (word : List ℕ) (number : ℕ) → count < 2 ^ 32 → number < count → IsNumber word number
    → number_below count word ≡ Some number
unfolding number_below
below_found zero word number few below is = absurd (omega (arith, below))
below_found (suc count) word number few below is =
    by (bytes_eq word (decimal count)) refl (λ less. below_found count word number (omega (arith, few)) less is)
  where
    same : word ≡ decimal count → number ≡ count
    same written = decimal_injective number count (omega (arith, few, below)) (omega (arith, few)) (sym is.1 ∙ written)

    differ : bytes_eq word (decimal count) ≡ false → number ≡ count → ⊥
    differ failed equal = true≢false (sym ((bytes_eq-Decides word (decimal count)).1 (is.1 ∙ ap decimal equal)) ∙ failed)

    by : (test : Bool) → bytes_eq word (decimal count) ≡ test → (number < count → number_below count word ≡ Some number)
        → (if test then Some count else number_below count word) ≡ Some number
    by true passed rest = ap Some (sym (same ((bytes_eq-Decides word (decimal count)).0 passed)))
    by false failed rest = let other : number ≢ count = differ failed in rest (omega (arith, below, other))

-- where the digits are those of no number below the count, there is none
none_below : (count : ℕ) (word : List ℕ) → ((number : ℕ) → number < count → word ≡ decimal number → ⊥)
    → number_below count word ≡ None
unfolding number_below
none_below zero word none = refl
none_below (suc count) word none =
    by (bytes_eq word (decimal count)) refl (none_below count word (λ number below. none number (omega (arith, below))))
  where
    by : (test : Bool) → bytes_eq word (decimal count) ≡ test → number_below count word ≡ None
        → (if test then Some count else number_below count word) ≡ None
    by true passed rest = absurd (none count (omega arith) ((bytes_eq-Decides word (decimal count)).0 passed))
    by false failed rest = rest

pub past_none : (count : ℕ) (word : List ℕ) (number : ℕ) → count < 2 ^ 32 → count ≤ number → IsNumber word number
    → number_below count word ≡ None
past_none count word number few past is = none_below count word (λ other below written.
    let few_number = is.0 in
    let same = decimal_injective other number (omega (arith, few, below)) (omega (arith, few_number)) (sym written ∙ is.1) in
    omega (arith, same, below, past))

pub no_number_none : (count : ℕ) (word : List ℕ) → count < 2 ^ 32 → IsNoNumber word → number_below count word ≡ None
no_number_none count word few none = none_below count word (λ number below. none number (omega (arith, few, below)))
