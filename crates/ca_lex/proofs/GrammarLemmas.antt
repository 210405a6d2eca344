-- The parts of a length, found in a word and joined to one.
use Rattle.std.proofs.Common.{◌≡◌, ℕ, ◌+◌, ◌≤◌, ◌^◌, Bool, true, false, cond, eqb, ◌&&◌, List, [], ◌∷◌, ◌++◌}
use Rattle.std.proofs.Common.{length, take, drop, Option, Some, None, arith, refl, sym, ap, ◌∙◌, append_assoc}
use Rattle.std.specs.Prelude.{nat_le, option_and_then}
use Rattle.std.proofs.lemmas.List.{take-append-drop}
use Rattle.std.proofs.lemmas.Bool.Decides.{nat_tests}
use Rattle.ca_lex.specs.Length.{is_digit, is_e, digits_len, number_of, Mantissa, Shift, mantissa_of}
use Rattle.ca_lex.specs.Length.{places_at, signed_at, exponent_at, suffix_of, in_range, scaled, has_digits}
use Rattle.ca_lex.specs.Length.{length_of}
use Rattle.ca_lex.specs.LengthGrammar.{AreDigits, IsExponent, NoExponent, Unsigned, Plus, Minus, IsLength}
use Rattle.ca_lex.proofs.RunLemmas.{front_digits}
use Rattle.ca_lex.proofs.PointLemmas.{here, fraction_found, mantissa_only}
use Rattle.ca_lex.proofs.ExponentLemmas.{places_only, moved, with_right, with_left, exponent_found}
use Rattle.ca_lex.proofs.SuffixLemmas.{suffix_found, suffix_only, BeginsSuffix, suffix_begins}
use Rattle.ca_lex.proofs.SuffixLemmas.{suffix_no_digit, exponent_begins}

pub digit_no_minus : (byte : ℕ) → is_digit byte ≡ true → eqb byte 45 ≡ false
digit_no_minus byte is = grind (arith, nat_tests)

pub digit_no_plus : (byte : ℕ) → is_digit byte ≡ true → eqb byte 43 ≡ false
digit_no_plus byte is = grind (arith, nat_tests)

pub unsigned_at : (text : List ℕ) → 1 ≤ length text → AreDigits text → (rest : List ℕ) → signed_at (text ++ rest) ≡ with_right (places_at (text ++ rest))
unfolding signed_at
unsigned_at [] some are rest = absurd (omega arith)
unsigned_at (byte ∷ more) some are rest =
    let digit : is_digit byte ≡ true = are 0 0 (omega arith) in
    ap (λ (x : Bool). cond x (with_left (places_at (more ++ rest))) (cond (eqb byte 43) (with_right (places_at (more ++ rest))) (with_right (places_at (byte ∷ (more ++ rest)))))) (digit_no_minus byte digit)
    ∙ ap (λ (x : Bool). cond x (with_right (places_at (more ++ rest))) (with_right (places_at (byte ∷ (more ++ rest))))) (digit_no_plus byte digit)

pub plus_at : (text : List ℕ) → signed_at (43 ∷ text) ≡ with_right (places_at text)
unfolding signed_at
plus_at text = refl

pub minus_at : (text : List ℕ) → signed_at (45 ∷ text) ≡ with_left (places_at text)
unfolding signed_at
minus_at text = refl

pub letter_at : (letter : ℕ) (text : List ℕ) → is_e letter ≡ true → exponent_at (letter ∷ text) ≡ signed_at text
unfolding exponent_at
letter_at letter text e = ap (λ (x : Bool). cond x (signed_at text) (Some (moved 0 0 (letter ∷ text)))) e

pub nothing_at : (text : List ℕ) → BeginsSuffix text → exponent_at text ≡ Some (moved 0 0 text)
unfolding exponent_at
nothing_at [] begins = refl
nothing_at (byte ∷ more) begins = ap (λ (x : Bool). cond x (signed_at more) (Some (moved 0 0 (byte ∷ more)))) begins.2

pub exponent_only : (suffix : List ℕ) → BeginsSuffix suffix → {exponent : List ℕ} {right left : ℕ} → IsExponent exponent right left
    → exponent_at (exponent ++ suffix) ≡ Some (moved right left suffix)
exponent_only suffix begins NoExponent = nothing_at suffix begins
exponent_only suffix begins (Unsigned letter digits e form) =
    letter_at letter (digits ++ suffix) e ∙ unsigned_at digits form.some form.digits suffix
    ∙ ap with_right (places_only digits suffix form (suffix_no_digit suffix begins))
exponent_only suffix begins (Plus letter digits e form) =
    letter_at letter (43 ∷ (digits ++ suffix)) e ∙ plus_at (digits ++ suffix)
    ∙ ap with_right (places_only digits suffix form (suffix_no_digit suffix begins))
exponent_only suffix begins (Minus letter digits e form) =
    letter_at letter (45 ∷ (digits ++ suffix)) e ∙ minus_at (digits ++ suffix)
    ∙ ap with_left (places_only digits suffix form (suffix_no_digit suffix begins))

pub in_range_found : (number value : ℕ) → in_range number ≡ Some value → (value ≡ number) × (1 ≤ value) × (value ≤ 10 ^ 24)
unfolding in_range
in_range_found number value is = by_test (nat_le 1 number && nat_le number (10 ^ 24)) refl
  where
    by_test : (within : Bool) → (nat_le 1 number && nat_le number (10 ^ 24)) ≡ within → (value ≡ number) × (1 ≤ value) × (value ≤ 10 ^ 24)
    by_test true within =
        let reported : Some number ≡ Some value = sym (ap (λ (x : Bool). cond x (Some number) None) within) ∙ is in
        let same : value ≡ number = cc in
        let least : 1 ≤ number = grind (arith, nat_tests) in
        let most : number ≤ 10 ^ 24 = grind (arith, nat_tests) in
        (same, omega arith, omega arith)
    by_test false within =
        let reported : None ≡ Some value = sym (ap (λ (x : Bool). cond x (Some number) None) within) ∙ is in
        absurd cc

pub in_range_only : (number : ℕ) → 1 ≤ number → number ≤ 10 ^ 24 → in_range number ≡ Some number
unfolding in_range
in_range_only number least most =
    let within : (nat_le 1 number && nat_le number (10 ^ 24)) ≡ true = grind (arith, nat_tests) in
    ap (λ (x : Bool). cond x (Some number) None) within

pub counted : (len : ℕ) → (nat_le 1 len && nat_le len 32) ≡ true → (1 ≤ len) × (len ≤ 32)
counted len is = (grind (arith, nat_tests), grind (arith, nat_tests))

pub is_counted : (len : ℕ) → 1 ≤ len → len ≤ 32 → (nat_le 1 len && nat_le len 32) ≡ true
is_counted len some few = grind (arith, nat_tests)

-- the value of a word with this mantissa and shift
abbrev pub with_suffix : Mantissa → Shift → Option ℕ → Option ℕ
with_suffix mantissa exponent given =
    option_and_then (λ (suffix : ℕ). in_range (scaled (number_of mantissa.digits) (18 + exponent.right) (mantissa.places + exponent.left + suffix))) given

abbrev pub with_exponent : Mantissa → Option Shift → Option ℕ
with_exponent mantissa given = option_and_then (λ (exponent : Shift). with_suffix mantissa exponent (suffix_of exponent.rest)) given

abbrev pub with_mantissa : Mantissa → Option ℕ
with_mantissa mantissa = cond (has_digits mantissa.digits) (with_exponent mantissa (exponent_at mantissa.rest)) None

pub length_of-mantissa : (word : List ℕ) → length_of word ≡ with_mantissa (mantissa_of word)
unfolding length_of
length_of-mantissa word = refl

pub mantissa_step : (mantissa : Mantissa) (value : ℕ) → with_mantissa mantissa ≡ Some value
    → (has_digits mantissa.digits ≡ true) × (with_exponent mantissa (exponent_at mantissa.rest) ≡ Some value)
mantissa_step mantissa value is = by_count (has_digits mantissa.digits) refl
  where
    by_count : (has : Bool) → has_digits mantissa.digits ≡ has
        → (has_digits mantissa.digits ≡ true) × (with_exponent mantissa (exponent_at mantissa.rest) ≡ Some value)
    by_count true has = (has, sym (ap (λ (x : Bool). cond x (with_exponent mantissa (exponent_at mantissa.rest)) None) has) ∙ is)
    by_count false has =
        let reported : None ≡ Some value = sym (ap (λ (x : Bool). cond x (with_exponent mantissa (exponent_at mantissa.rest)) None) has) ∙ is in
        absurd cc

pub exponent_step : (mantissa : Mantissa) (given : Option Shift) (value : ℕ) → with_exponent mantissa given ≡ Some value
    → (exponent : Shift) × (given ≡ Some exponent) × (with_suffix mantissa exponent (suffix_of exponent.rest) ≡ Some value)
exponent_step mantissa None value is = absurd cc
exponent_step mantissa (Some exponent) value is = (exponent, refl, is)

pub suffix_step : (mantissa : Mantissa) (exponent : Shift) (given : Option ℕ) (value : ℕ) → with_suffix mantissa exponent given ≡ Some value
    → (suffix : ℕ) × (given ≡ Some suffix)
    × (in_range (scaled (number_of mantissa.digits) (18 + exponent.right) (mantissa.places + exponent.left + suffix)) ≡ Some value)
suffix_step mantissa exponent None value is = absurd cc
suffix_step mantissa exponent (Some suffix) value is = (suffix, refl, is)

-- five texts, one after another
pub joined_parts : (whole point fraction exponent suffix : List ℕ)
    → whole ++ (point ++ (fraction ++ (exponent ++ suffix))) ≡ whole ++ point ++ fraction ++ exponent ++ suffix
joined_parts whole point fraction exponent suffix = sym (simp append_assoc)

-- a word with a length has the parts of one
pub length_found : (word : List ℕ) (value : ℕ) → length_of word ≡ Some value → IsLength word value
length_found word value is =
    let whole = take (digits_len word) word in
    let front = fraction_found whole (drop (digits_len word) word) in
    let mantissa = here (whole ++ front.fraction) (length front.fraction) front.rest in
    let at_mantissa : with_mantissa mantissa ≡ Some value = sym (ap with_mantissa front.is) ∙ sym (length_of-mantissa word) ∙ is in
    let step = mantissa_step mantissa value at_mantissa in
    let digits = counted (length (whole ++ front.fraction)) step.0 in
    let next = exponent_step mantissa (exponent_at front.rest) value step.1 in
    let found = exponent_found front.rest next.0 next.1 in
    let last = suffix_step mantissa next.0 (suffix_of next.0.rest) value next.2 in
    let range = in_range_found (scaled (number_of (whole ++ front.fraction)) (18 + next.0.right) (length front.fraction + next.0.left + last.0)) value last.2 in
    record {
      whole = whole;
      point = front.point;
      fraction = front.fraction;
      exponent = found.exponent;
      suffix = next.0.rest;
      right = next.0.right;
      left = next.0.left;
      places = last.0;
      joined = sym (take-append-drop (digits_len word) word)
          ∙ ap (λ (text : List ℕ). whole ++ text) (front.joined ∙ append_assoc front.point front.fraction front.rest
          ∙ ap (λ (text : List ℕ). front.point ++ (front.fraction ++ text)) found.joined)
          ∙ joined_parts whole front.point front.fraction found.exponent next.0.rest;
      whole_form = front_digits word;
      point_form = front.point_form;
      fraction_form = front.fraction_form;
      exponent_form = found.form;
      suffix_form = suffix_found next.0.rest last.0 last.1;
      some = digits.0;
      few = digits.1;
      scale = range.0;
      least = range.1;
      most = range.2;
    }

-- a word with the parts of a length has their value
pub length_only : (word : List ℕ) (value : ℕ) → IsLength word value → length_of word ≡ Some value
length_only word value parts =
    let begins = suffix_begins parts.suffix_form in
    let rest = parts.exponent ++ parts.suffix in
    let mantissa = here (parts.whole ++ parts.fraction) (length parts.fraction) rest in
    let exponent = moved parts.right parts.left parts.suffix in
    let number = scaled (number_of (parts.whole ++ parts.fraction)) (18 + parts.right) (length parts.fraction + parts.left + parts.places) in
    let same : number ≡ value = sym parts.scale in
    ap length_of (parts.joined ∙ sym (joined_parts parts.whole parts.point parts.fraction parts.exponent parts.suffix))
    ∙ length_of-mantissa (parts.whole ++ (parts.point ++ (parts.fraction ++ rest)))
    ∙ ap with_mantissa (mantissa_only parts.whole parts.point parts.fraction rest parts.whole_form parts.point_form parts.fraction_form
    (exponent_begins parts.suffix begins parts.exponent_form))
    ∙ ap (λ (x : Bool). cond x (with_exponent mantissa (exponent_at rest)) None) (is_counted (length (parts.whole ++ parts.fraction)) parts.some parts.few)
    ∙ ap (with_exponent mantissa) (exponent_only parts.suffix begins parts.exponent_form)
    ∙ ap (with_suffix mantissa exponent) (suffix_only parts.suffix_form)
    ∙ ap in_range same ∙ in_range_only value parts.least parts.most
