-- A suffix, and what it and an exponent begin with.
use Rattle.std.proofs.Common.{◌≡◌, ℕ, Bool, true, false, cond, eqb, List, [], ◌∷◌, ◌++◌, Some, None, arith}
use Rattle.std.proofs.Common.{refl, sym, ap, ◌∙◌, subst}
use Rattle.std.proofs.lemmas.Bool.Decides.{nat_tests}
use Rattle.std.proofs.lemmas.Bool.{eqb-true}
use Rattle.ca_lex.specs.Length.{is_digit, is_e, is_m, places_of, suffix_of}
use Rattle.ca_lex.specs.LengthGrammar.{IsExponent, NoExponent, Unsigned, Plus, Minus, IsSuffix, NoSuffix}
use Rattle.ca_lex.specs.LengthGrammar.{OneLetter, WithM}
use Rattle.ca_lex.proofs.RunLemmas.{BeginsNoDigit}
use Rattle.ca_lex.proofs.PointLemmas.{BeginsAfter}

pub suffix_found : (text : List ℕ) (places : ℕ) → suffix_of text ≡ Some places → IsSuffix text places
unfolding suffix_of
suffix_found [] places is =
    let none : 0 ≡ places = cc in
    subst (λ (places : ℕ). IsSuffix [] places) none NoSuffix
suffix_found (letter ∷ []) places is = OneLetter letter places is
suffix_found (letter ∷ second ∷ []) places is = by_m (is_m second) refl
  where
    by_m : (m : Bool) → is_m second ≡ m → IsSuffix (letter ∷ second ∷ []) places
    by_m true m = WithM letter second places (sym (ap (λ (x : Bool). cond x (places_of letter) None) m) ∙ is) m
    by_m false m =
        let reported : None ≡ Some places = sym (ap (λ (x : Bool). cond x (places_of letter) None) m) ∙ is in
        absurd cc
suffix_found (letter ∷ second ∷ third ∷ more) places is = absurd cc

pub suffix_only : {text : List ℕ} {places : ℕ} → IsSuffix text places → suffix_of text ≡ Some places
unfolding suffix_of
suffix_only NoSuffix = refl
suffix_only (OneLetter letter places is) = is
suffix_only (WithM letter second places is m) = ap (λ (x : Bool). cond x (places_of letter) None) m ∙ is

pub digit_no_letter : (byte : ℕ) → is_digit byte ≡ true → places_of byte ≡ None
digit_no_letter byte is = grind (arith, nat_tests)

pub point_no_letter : (byte : ℕ) → byte ≡ 46 → places_of byte ≡ None
point_no_letter byte is = rw is refl

pub e_no_letter : (byte : ℕ) → is_e byte ≡ true → places_of byte ≡ None
e_no_letter byte is = grind (arith, nat_tests)

pub e_no_digit : (byte : ℕ) → is_e byte ≡ true → is_digit byte ≡ false
e_no_digit byte is = grind (arith, nat_tests)

pub e_no_point : (byte : ℕ) → is_e byte ≡ true → eqb byte 46 ≡ false
e_no_point byte is = grind (arith, nat_tests)

-- a test that would rule a letter out fails of a letter
pub fails : (is : Bool) (letter places : ℕ) → (is ≡ true → places_of letter ≡ None) → places_of letter ≡ Some places → is ≡ false
fails false letter places rules_out stands = refl
fails true letter places rules_out stands =
    let none : places_of letter ≡ None = rules_out refl in
    absurd cc

-- the text begins with no digit, no point and no E
abbrev pub BeginsSuffix : List ℕ → Type 0
BeginsSuffix [] = Unit {0}
BeginsSuffix (byte ∷ more) = (is_digit byte ≡ false) × (eqb byte 46 ≡ false) × (is_e byte ≡ false)

pub letter_begins : (letter places : ℕ) (more : List ℕ) → places_of letter ≡ Some places → BeginsSuffix (letter ∷ more)
letter_begins letter places more stands = (
  fails (is_digit letter) letter places (digit_no_letter letter) stands,
  fails (eqb letter 46) letter places (λ is. point_no_letter letter (eqb-true letter 46 is)) stands,
  fails (is_e letter) letter places (e_no_letter letter) stands,
)

pub suffix_begins : {text : List ℕ} {places : ℕ} → IsSuffix text places → BeginsSuffix text
suffix_begins NoSuffix = tt
suffix_begins (OneLetter letter places is) = letter_begins letter places [] is
suffix_begins (WithM letter second places is m) = letter_begins letter places (second ∷ []) is

pub suffix_no_digit : (text : List ℕ) → BeginsSuffix text → BeginsNoDigit text
suffix_no_digit [] begins = tt
suffix_no_digit (byte ∷ more) begins = begins.0

pub suffix_after : (text : List ℕ) → BeginsSuffix text → BeginsAfter text
suffix_after [] begins = tt
suffix_after (byte ∷ more) begins = (begins.0, begins.1)

pub exponent_begins : (suffix : List ℕ) → BeginsSuffix suffix → {exponent : List ℕ} {right left : ℕ} → IsExponent exponent right left → BeginsAfter (exponent ++ suffix)
exponent_begins suffix begins NoExponent = suffix_after suffix begins
exponent_begins suffix begins (Unsigned letter digits e form) = (e_no_digit letter e, e_no_point letter e)
exponent_begins suffix begins (Plus letter digits e form) = (e_no_digit letter e, e_no_point letter e)
exponent_begins suffix begins (Minus letter digits e form) = (e_no_digit letter e, e_no_point letter e)
