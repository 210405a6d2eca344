-- An exponent, found in a text.
use Rattle.std.proofs.Common.{◌≡◌, ℕ, ◌≤◌, Bool, true, false, cond, eqb, ◌||◌, List, [], ◌∷◌, ◌++◌, length}
use Rattle.std.proofs.Common.{take, drop, Option, Some, None, arith, refl, sym, ap, ◌∙◌, subst}
use Rattle.std.specs.Prelude.{option_and_then}
use Rattle.std.proofs.lemmas.List.{take-append-drop}
use Rattle.std.proofs.lemmas.List.Folds.{length-prefix_len}
use Rattle.std.proofs.lemmas.Bool.Decides.{nat_tests}
use Rattle.std.proofs.lemmas.Bool.{eqb-true}
use Rattle.ca_lex.specs.Length.{is_digit, is_e, digits_len, number_of, Shift, places_at, signed_at}
use Rattle.ca_lex.specs.Length.{exponent_at}
use Rattle.ca_lex.specs.LengthGrammar.{AreOneOrTwoDigits, IsExponent, NoExponent, Unsigned, Plus, Minus}
use Rattle.ca_lex.proofs.RunLemmas.{BeginsNoDigit, front_digits, digits_len-append, digits_taken}
use Rattle.ca_lex.proofs.RunLemmas.{digits_dropped}

pub record HasPlaces (text : List ℕ) (places : ℕ × List ℕ) : Type 0 where
  pub digits : List ℕ
  pub joined : text ≡ digits ++ places.1
  pub form : AreOneOrTwoDigits digits
  pub is : number_of digits ≡ places.0

pub one_or_two : (len : ℕ) → (eqb len 1 || eqb len 2) ≡ true → (1 ≤ len) × (len ≤ 2)
one_or_two len is = (grind (arith, nat_tests), grind (arith, nat_tests))

pub is_one_or_two : (len : ℕ) → 1 ≤ len → len ≤ 2 → (eqb len 1 || eqb len 2) ≡ true
is_one_or_two len some few = grind (arith, nat_tests)

pub places_found : (text : List ℕ) (places : ℕ × List ℕ) → places_at text ≡ Some places → HasPlaces text places
unfolding places_at
places_found text places is = by_count (eqb (digits_len text) 1 || eqb (digits_len text) 2) refl
  where
    by_count : (few : Bool) → (eqb (digits_len text) 1 || eqb (digits_len text) 2) ≡ few → HasPlaces text places
    by_count true few =
        let reported : Some (number_of (take (digits_len text) text), drop (digits_len text) text) ≡ Some places =
        sym (ap (λ (is : Bool). cond is (Some (number_of (take (digits_len text) text), drop (digits_len text) text)) None) few) ∙ is in
        let same : (number_of (take (digits_len text) text), drop (digits_len text) text) ≡ places = cc in
        let len = length-prefix_len is_digit text in
        let bounds = one_or_two (digits_len text) few in
        record {
          digits = take (digits_len text) text;
          joined = sym (take-append-drop (digits_len text) text) ∙ ap (λ (found : ℕ × List ℕ). take (digits_len text) text ++ found.1) same;
          form = record { digits = front_digits text; some = rw len bounds.0; few = rw len bounds.1 };
          is = ap (λ (found : ℕ × List ℕ). found.0) same;
        }
    by_count false few =
        let reported : None ≡ Some places =
        sym (ap (λ (is : Bool). cond is (Some (number_of (take (digits_len text) text), drop (digits_len text) text)) None) few) ∙ is in
        absurd cc

pub places_only : (digits rest : List ℕ) → AreOneOrTwoDigits digits → BeginsNoDigit rest → places_at (digits ++ rest) ≡ Some (number_of digits, rest)
unfolding places_at
places_only digits rest form begins =
    let len = digits_len-append digits rest form.digits begins in
    ap (λ (is : Bool). cond is (Some (number_of (take (digits_len (digits ++ rest)) (digits ++ rest)), drop (digits_len (digits ++ rest)) (digits ++ rest))) None)
    (ap (λ (count : ℕ). eqb count 1 || eqb count 2) len ∙ is_one_or_two (length digits) form.some form.few)
    ∙ ap (λ (front : List ℕ). Some (number_of front, drop (digits_len (digits ++ rest)) (digits ++ rest))) (digits_taken digits rest form.digits begins)
    ∙ ap (λ (following : List ℕ). Some (number_of digits, following)) (digits_dropped digits rest form.digits begins)

-- the parts of an exponent's text
pub record HasExponent (text : List ℕ) (shift : Shift) : Type 0 where
  pub exponent : List ℕ
  pub joined : text ≡ exponent ++ shift.rest
  pub form : IsExponent exponent shift.right shift.left

abbrev pub moved : ℕ → ℕ → List ℕ → Shift
moved right left rest = record { right = right; left = left; rest = rest }

abbrev pub with_right : Option (ℕ × List ℕ) → Option Shift
with_right given = option_and_then (λ (places : ℕ × List ℕ). Some (moved places.0 0 places.1)) given

abbrev pub with_left : Option (ℕ × List ℕ) → Option Shift
with_left given = option_and_then (λ (places : ℕ × List ℕ). Some (moved 0 places.0 places.1)) given

pub raised : (given : Option (ℕ × List ℕ)) (shift : Shift) → with_right given ≡ Some shift
    → (places : ℕ × List ℕ) × (given ≡ Some places) × (moved places.0 0 places.1 ≡ shift)
raised None shift is = absurd cc
raised (Some places) shift is = (places, refl, cc)

pub lowered : (given : Option (ℕ × List ℕ)) (shift : Shift) → with_left given ≡ Some shift
    → (places : ℕ × List ℕ) × (given ≡ Some places) × (moved 0 places.0 places.1 ≡ shift)
lowered None shift is = absurd cc
lowered (Some places) shift is = (places, refl, cc)

pub unsigned_found : (letter : ℕ) (text : List ℕ) (shift : Shift) → is_e letter ≡ true → with_right (places_at text) ≡ Some shift → HasExponent (letter ∷ text) shift
unsigned_found letter text shift e is =
    let step = raised (places_at text) shift is in
    let found = places_found text step.0 step.1 in
    subst (λ (shift : Shift). HasExponent (letter ∷ text) shift) step.2 (record {
      exponent = letter ∷ found.digits;
      joined = ap (λ (following : List ℕ). letter ∷ following) found.joined;
      form = subst (λ (right : ℕ). IsExponent (letter ∷ found.digits) right 0) found.is (Unsigned letter found.digits e found.form);
    })

pub plus_found : (letter : ℕ) (text : List ℕ) (shift : Shift) → is_e letter ≡ true → with_right (places_at text) ≡ Some shift → HasExponent (letter ∷ 43 ∷ text) shift
plus_found letter text shift e is =
    let step = raised (places_at text) shift is in
    let found = places_found text step.0 step.1 in
    subst (λ (shift : Shift). HasExponent (letter ∷ 43 ∷ text) shift) step.2 (record {
      exponent = letter ∷ 43 ∷ found.digits;
      joined = ap (λ (following : List ℕ). letter ∷ 43 ∷ following) found.joined;
      form = subst (λ (right : ℕ). IsExponent (letter ∷ 43 ∷ found.digits) right 0) found.is (Plus letter found.digits e found.form);
    })

pub minus_found : (letter : ℕ) (text : List ℕ) (shift : Shift) → is_e letter ≡ true → with_left (places_at text) ≡ Some shift → HasExponent (letter ∷ 45 ∷ text) shift
minus_found letter text shift e is =
    let step = lowered (places_at text) shift is in
    let found = places_found text step.0 step.1 in
    subst (λ (shift : Shift). HasExponent (letter ∷ 45 ∷ text) shift) step.2 (record {
      exponent = letter ∷ 45 ∷ found.digits;
      joined = ap (λ (following : List ℕ). letter ∷ 45 ∷ following) found.joined;
      form = subst (λ (left : ℕ). IsExponent (letter ∷ 45 ∷ found.digits) 0 left) found.is (Minus letter found.digits e found.form);
    })

pub signed_found : (letter : ℕ) (text : List ℕ) (shift : Shift) → is_e letter ≡ true → signed_at text ≡ Some shift → HasExponent (letter ∷ text) shift
unfolding signed_at
signed_found letter [] shift e is = absurd cc
signed_found letter (byte ∷ more) shift e is = by_minus (eqb byte 45) refl
  where
    by_plus : (plus : Bool) → eqb byte 43 ≡ plus → eqb byte 45 ≡ false → HasExponent (letter ∷ byte ∷ more) shift
    by_plus true plus minus =
        subst (λ (sign : ℕ). HasExponent (letter ∷ sign ∷ more) shift) (sym (eqb-true byte 43 plus))
        (plus_found letter more shift e (sym (ap (λ (x : Bool). cond x (with_left (places_at more)) (cond (eqb byte 43) (with_right (places_at more)) (with_right (places_at (byte ∷ more))))) minus
        ∙ ap (λ (x : Bool). cond x (with_right (places_at more)) (with_right (places_at (byte ∷ more)))) plus) ∙ is))
    by_plus false plus minus =
        unsigned_found letter (byte ∷ more) shift e (sym (ap (λ (x : Bool). cond x (with_left (places_at more)) (cond (eqb byte 43) (with_right (places_at more)) (with_right (places_at (byte ∷ more))))) minus
        ∙ ap (λ (x : Bool). cond x (with_right (places_at more)) (with_right (places_at (byte ∷ more)))) plus) ∙ is)

    by_minus : (minus : Bool) → eqb byte 45 ≡ minus → HasExponent (letter ∷ byte ∷ more) shift
    by_minus true minus =
        subst (λ (sign : ℕ). HasExponent (letter ∷ sign ∷ more) shift) (sym (eqb-true byte 45 minus))
        (minus_found letter more shift e (sym (ap (λ (x : Bool). cond x (with_left (places_at more)) (cond (eqb byte 43) (with_right (places_at more)) (with_right (places_at (byte ∷ more))))) minus) ∙ is))
    by_minus false minus = by_plus (eqb byte 43) refl minus

pub no_exponent : (text : List ℕ) (shift : Shift) → moved 0 0 text ≡ shift → HasExponent text shift
no_exponent text shift is = subst (λ (shift : Shift). HasExponent text shift) is (record { exponent = []; joined = refl; form = NoExponent })

pub exponent_found : (text : List ℕ) (shift : Shift) → exponent_at text ≡ Some shift → HasExponent text shift
unfolding exponent_at
exponent_found [] shift is = no_exponent [] shift cc
exponent_found (byte ∷ more) shift is = by_letter (is_e byte) refl
  where
    by_letter : (e : Bool) → is_e byte ≡ e → HasExponent (byte ∷ more) shift
    by_letter true e = signed_found byte more shift e (sym (ap (λ (x : Bool). cond x (signed_at more) (Some (moved 0 0 (byte ∷ more)))) e) ∙ is)
    by_letter false e =
        let reported : Some (moved 0 0 (byte ∷ more)) ≡ Some shift = sym (ap (λ (x : Bool). cond x (signed_at more) (Some (moved 0 0 (byte ∷ more)))) e) ∙ is in
        no_exponent (byte ∷ more) shift cc
