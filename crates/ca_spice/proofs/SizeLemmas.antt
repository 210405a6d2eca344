-- A length that is written reads as itself.
use Rattle.std.proofs.Common.{◌≡◌, ℕ, zero, suc, ◌+◌, ◌*◌, ◌/◌, ◌%◌, ◌^◌, ◌<◌, ◌≤◌, Bool, true, false, ◌&&◌}
use Rattle.std.proofs.Common.{eqb, List, [], ◌∷◌, ◌++◌, length, Some, refl, sym, ap, ◌∙◌, subst, arith, inr}
use Rattle.std.proofs.Common.{codes}
use Rattle.std.specs.Fmt.{decimal}
use Rattle.std.specs.Char.{to_ascii_uppercase}
use Rattle.std.specs.List.{AllByRecursion}
use Rattle.std.proofs.Math.Nat.{mul-div_cancel}
use Rattle.std.proofs.lemmas.Fmt.{decimal_by_steps_wide, length-decimal-le_wide}
use Rattle.std.proofs.lemmas.List.{map-append, append-nil, length-append}
use Rattle.std.proofs.lemmas.List.Folds.{list_all-append}
use Rattle.std.proofs.lemmas.Bool.Decides.{nat_tests}
use Rattle.ca_lex.specs.Words.{ends_word, words_of, upper_case}
use Rattle.ca_lex.specs.Length.{is_digit, number_of, with_digit, length_of}
use Rattle.ca_lex.specs.LengthGrammar.{AreDigits, Minus, NoSuffix, IsLength}
use Rattle.ca_lex.proofs.DigitLemmas.{fold_append, pow_pos10}
use Rattle.ca_lex.proofs.GrammarLemmas.{length_only}
use Rattle.ca_spice.specs.Names.{is_text_byte, is_text}
use Rattle.ca_spice.specs.Writing.{size_word}
use Rattle.ca_spice.proofs.SpelledLemmas.{HasNoComment, IsInside, all_append, words_of-run}

-- the byte is a digit
abbrev IsDigit : ℕ → Type 0
IsDigit byte = is_digit byte ≡ true

all_weaker : (P Q : ℕ → Type 0) → ((byte : ℕ) → P byte → Q byte) → (text : List ℕ) → AllByRecursion P text → AllByRecursion Q text
all_weaker P Q implied [] all = tt
all_weaker P Q implied (byte ∷ text) all = (implied byte all.0, all_weaker P Q implied text all.1)

-- digits that spell a number
pub record Spells (number : ℕ) (digits : List ℕ) : Type 0 where
  pub all : AllByRecursion IsDigit digits
  pub value : number_of digits ≡ number
  pub some : 1 ≤ length digits

digit : (number : ℕ) → number < 10 → is_digit (48 + number) ≡ true
digit number below = grind (arith, nat_tests)

one_digit : (number : ℕ) → number < 10 → Spells number ((48 + number) ∷ [])
one_digit number below = record { all = (digit number below, tt); value = omega arith; some = omega arith }

more_digits : (number : ℕ) (digits : List ℕ) → 10 ≤ number → Spells (number / 10) digits → Spells number (digits ++ ((48 + number % 10) ∷ []))
more_digits number digits large spells = record {
  all = all_append IsDigit digits ((48 + number % 10) ∷ []) spells.all (digit (number % 10) (omega arith), tt);
  value =
      let value : with_digit (number_of digits) (48 + number % 10) ≡ number = omega (arith, spells.value) in
      fold_append digits ((48 + number % 10) ∷ []) 0 ∙ value;
  some = omega (arith, length-append digits ((48 + number % 10) ∷ []), spells.some);
}

pub decimal_spells : (number : ℕ) → number < 10 ^ 64 → Spells number (decimal number)
decimal_spells number below = decimal_by_steps_wide Spells one_digit more_digits number below

-- after 0, what holds of each by recursion holds at each place
are_digits : (digits : List ℕ) → AllByRecursion IsDigit digits → AreDigits digits
are_digits [] all k d within = absurd (omega arith)
are_digits (byte ∷ digits) all zero d within = all.0
are_digits (byte ∷ digits) all (suc k) d within = are_digits digits all.1 k d (omega arith)

scaled_back : (number size : ℕ) → number ≡ size → size ≡ number * 10 ^ 18 / 10 ^ 18
scaled_back number size is = sym (mul-div_cancel number (pow_pos10 18) ∙ is)

end_alone : (digits end : List ℕ) → digits ++ end ≡ (((digits ++ []) ++ []) ++ end) ++ []
end_alone digits end =
    ap (λ (text : List ℕ). text ++ end) (sym (append-nil digits) ∙ sym (append-nil (digits ++ [])))
    ∙ sym (append-nil (((digits ++ []) ++ []) ++ end))

pub length_of-written : (size : ℕ) → 1 ≤ size → size ≤ 10 ^ 24 → length_of (decimal size ++ codes "E-18") ≡ Some size
length_of-written size least most =
    let spells = decimal_spells size (omega arith) in
    let len : length (decimal size) ≤ 25 = length-decimal-le_wide 25 size (omega arith) (omega arith) (omega arith) in
    let whole : decimal size ++ [] ≡ decimal size = append-nil (decimal size) in
    let it : IsLength (decimal size ++ codes "E-18") size = record {
      whole = decimal size;
      point = [];
      fraction = [];
      exponent = codes "E-18";
      suffix = [];
      right = 0;
      left = 18;
      places = 0;
      joined = end_alone (decimal size) (codes "E-18");
      whole_form = are_digits (decimal size) spells.all;
      point_form = inr (refl, refl);
      fraction_form = are_digits [] tt;
      exponent_form = Minus 69 (codes "18") refl (record { digits = are_digits (codes "18") (refl, (refl, tt)); some = omega arith; few = omega arith });
      suffix_form = NoSuffix;
      some = subst (λ (digits : List ℕ). 1 ≤ length digits) (sym whole) spells.some;
      few = subst (λ (digits : List ℕ). length digits ≤ 32) (sym whole) (omega arith);
      scale = scaled_back (number_of (decimal size ++ [])) size (ap number_of whole ∙ spells.value);
      least = least;
      most = most;
    } in
    length_only _ _ it

digit_upper : (byte : ℕ) → is_digit byte ≡ true → to_ascii_uppercase byte ≡ byte
digit_upper byte is = grind (arith, nat_tests)

digit_inside : (byte : ℕ) → is_digit byte ≡ true → ends_word byte ≡ false
digit_inside byte is = grind (arith, nat_tests)

digit_text : (byte : ℕ) → is_digit byte ≡ true → is_text_byte byte ≡ true
digit_text byte is = grind (arith, nat_tests)

digit_shown : (byte : ℕ) → is_digit byte ≡ true → eqb byte 36 ≡ false
digit_shown byte is = grind (arith, nat_tests)

upper_digits : (digits : List ℕ) → AllByRecursion IsDigit digits → upper_case digits ≡ digits
upper_digits [] all = refl
upper_digits (byte ∷ digits) all = λ j. digit_upper byte all.0 j ∷ upper_digits digits all.1 j

text_digits : (digits : List ℕ) → AllByRecursion IsDigit digits → is_text digits ≡ true
text_digits [] all = refl
text_digits (byte ∷ digits) all = λ j. digit_text byte all.0 j && text_digits digits all.1 j

-- a text without `$` has no comment
pub no_comment : (begins : Bool) (text : List ℕ) → AllByRecursion (λ byte. eqb byte 36 ≡ false) text → HasNoComment begins text
no_comment begins [] all = tt
no_comment true (byte ∷ text) all = (all.0, no_comment (ends_word byte) text all.1)
no_comment false (byte ∷ text) all = (refl, no_comment (ends_word byte) text all.1)

pub run_alone : (word : List ℕ) → 1 ≤ length word → AllByRecursion IsInside word → words_of word ≡ word ∷ []
run_alone [] some all = absurd (omega arith)
run_alone (byte ∷ word) some all = words_of-run byte word all

pub value_upper : (size : ℕ) → size < 10 ^ 64 → upper_case (decimal size ++ codes "e-18") ≡ decimal size ++ codes "E-18"
value_upper size below =
    map-append to_ascii_uppercase (decimal size) (codes "e-18")
    ∙ ap (λ (digits : List ℕ). digits ++ codes "E-18") (upper_digits (decimal size) (decimal_spells size below).all)

pub value_alone : (size : ℕ) → size < 10 ^ 64 → words_of (decimal size ++ codes "E-18") ≡ (decimal size ++ codes "E-18") ∷ []
value_alone size below =
    let spells = decimal_spells size below in
    run_alone (decimal size ++ codes "E-18") (omega (arith, length-append (decimal size) (codes "E-18"), spells.some))
    (all_append IsInside (decimal size) (codes "E-18") (all_weaker IsDigit IsInside digit_inside (decimal size) spells.all) (refl, (refl, (refl, (refl, tt)))))

pub value_shown : (size : ℕ) → size < 10 ^ 64 → HasNoComment true (decimal size ++ codes "e-18")
value_shown size below =
    no_comment true (decimal size ++ codes "e-18")
    (all_append (λ byte. eqb byte 36 ≡ false) (decimal size) (codes "e-18") (all_weaker IsDigit (λ byte. eqb byte 36 ≡ false) digit_shown (decimal size) (decimal_spells size below).all) (refl, (refl, (refl, (refl, tt)))))

pub value_text : (size : ℕ) (end : List ℕ) → size < 10 ^ 64 → is_text end ≡ true → is_text (decimal size ++ end) ≡ true
value_text size end below text =
    list_all-append is_text_byte (decimal size) end ∙ (λ j. text_digits (decimal size) (decimal_spells size below).all j && text j)

-- the words of a parameter W or L with its value
pub width_words : (size : ℕ) → size < 10 ^ 64 → words_of (upper_case (size_word (codes "W=") size)) ≡ codes "W" ∷ codes "=" ∷ (decimal size ++ codes "E-18") ∷ []
unfolding words_of
width_words size below =
    ap (λ (text : List ℕ). codes "W" ∷ codes "=" ∷ words_of text) (value_upper size below)
    ∙ ap (λ (words : List (List ℕ)). codes "W" ∷ codes "=" ∷ words) (value_alone size below)

pub channel_words : (size : ℕ) → size < 10 ^ 64 → words_of (upper_case (size_word (codes "L=") size)) ≡ codes "L" ∷ codes "=" ∷ (decimal size ++ codes "E-18") ∷ []
unfolding words_of
channel_words size below =
    ap (λ (text : List ℕ). codes "L" ∷ codes "=" ∷ words_of text) (value_upper size below)
    ∙ ap (λ (words : List (List ℕ)). codes "L" ∷ codes "=" ∷ words) (value_alone size below)
