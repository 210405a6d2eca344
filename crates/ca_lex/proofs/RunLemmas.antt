-- The digits that a text begins with.
use Rattle.std.proofs.Common.{◌≡◌, ℕ, ◌+◌, ◌≤◌, ◌<◌, Bool, true, false, cond, ◌⊎◌, inl, inr, List, [], ◌∷◌}
use Rattle.std.proofs.Common.{◌++◌, length, take, drop, get_or, arith, refl, ap, ◌∙◌, eq-eqb, add-zero}
use Rattle.std.proofs.Math.Seq.{take-append_seam, drop-append_seam}
use Rattle.std.proofs.lemmas.List.{length-take, get_or-take}
use Rattle.std.proofs.lemmas.List.Sums.{prefix_len_passes, prefix_len_stops, prefix_len-le-length}
use Rattle.std.proofs.lemmas.List.Folds.{prefix_len-append}
use Rattle.std.proofs.lemmas.Bool.{cases_lt}
use Rattle.ca_lex.specs.Length.{is_digit, digits_len}
use Rattle.ca_lex.specs.LengthGrammar.{AreDigits}

-- the text begins with no digit
abbrev pub BeginsNoDigit : List ℕ → Type 0
BeginsNoDigit [] = Unit {0}
BeginsNoDigit (byte ∷ more) = is_digit byte ≡ false

-- the digits in front of a text are digits
pub front_digits : (text : List ℕ) → AreDigits (take (digits_len text) text)
front_digits text k d within =
    let below : k < digits_len text = omega (arith, length-take (digits_len text) text) in
    rw (get_or-take (digits_len text) text k d below) (prefix_len_passes is_digit text k d below)

-- digits are all that a text of digits begins with
pub digits_len-digits : (digits : List ℕ) → AreDigits digits → digits_len digits ≡ length digits
digits_len-digits digits are = by_end (cases_lt (digits_len digits) (length digits))
  where
    by_end : (digits_len digits < length digits) ⊎ (length digits ≤ digits_len digits) → digits_len digits ≡ length digits
    by_end (inl short) =
        let fails : is_digit (get_or digits (digits_len digits) 0) ≡ false = prefix_len_stops is_digit digits 0 short in
        let passes : is_digit (get_or digits (digits_len digits) 0) ≡ true = are (digits_len digits) 0 short in
        absurd cc
    by_end (inr long) = omega (arith, prefix_len-le-length is_digit digits)

pub no_digits : (rest : List ℕ) → BeginsNoDigit rest → digits_len rest ≡ 0
no_digits [] begins = refl
no_digits (byte ∷ more) begins = ap (λ (is : Bool). cond is (1 + digits_len more) 0) begins

-- digits and a text that begins with none
pub digits_len-append : (digits rest : List ℕ) → AreDigits digits → BeginsNoDigit rest → digits_len (digits ++ rest) ≡ length digits
digits_len-append digits rest are begins =
    prefix_len-append is_digit digits rest
    ∙ ap (λ (is : Bool). cond is (length digits + digits_len rest) (digits_len digits)) (eq-eqb (digits_len digits) (length digits) (digits_len-digits digits are))
    ∙ ap (λ (len : ℕ). length digits + len) (no_digits rest begins) ∙ add-zero (length digits)

pub digits_taken : (digits rest : List ℕ) → AreDigits digits → BeginsNoDigit rest → take (digits_len (digits ++ rest)) (digits ++ rest) ≡ digits
digits_taken digits rest are begins =
    ap (λ (len : ℕ). take len (digits ++ rest)) (digits_len-append digits rest are begins) ∙ take-append_seam digits rest

pub digits_dropped : (digits rest : List ℕ) → AreDigits digits → BeginsNoDigit rest → drop (digits_len (digits ++ rest)) (digits ++ rest) ≡ rest
digits_dropped digits rest are begins =
    ap (λ (len : ℕ). drop len (digits ++ rest)) (digits_len-append digits rest are begins) ∙ drop-append_seam digits rest
