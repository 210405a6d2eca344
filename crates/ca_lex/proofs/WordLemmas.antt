-- Words of a text, one after the other.
use Rattle.std.proofs.Common.{◌≡◌, ℕ, ◌+◌, ◌-◌, ◌<◌, ◌≤◌, get_or, Bool, true, false, ◌||◌, cond, not, eqb}
use Rattle.std.proofs.Common.{List, [], ◌∷◌, ◌++◌, length, take, drop, arith, refl, sym, ap, ◌∙◌, subst}
use Rattle.std.proofs.Math.Numerals.{one-add, sub-one}
use Rattle.std.proofs.Math.Seq.{take-length}
use Rattle.std.proofs.lemmas.List.{append-nil}
use Rattle.std.proofs.lemmas.Bool.{eqb-true}
use Rattle.ca_lex.specs.Words.{is_blank, ends_word, with_byte, word_len, words_of, words_with}
use Rattle.ca_lex.specs.code.Words.{BeginsWord}
use Rattle.ca_lex.specs.code.Words.{first_word_len}

abbrev cut_after : ℕ → List ℕ → ℕ → List (List ℕ)
cut_after byte more len = (byte ∷ take len more) ∷ words_of (drop len more)

abbrev cut_at : List ℕ → ℕ → List (List ℕ)
cut_at text len = take len text ∷ words_of (drop len text)

more_at : (byte : ℕ) (more : List ℕ) (len : ℕ) → cut_after byte more len ≡ cut_at (byte ∷ more) (1 + len)
more_at byte more len = rw one-add refl

-- neither test holds, so the last value is chosen
chosen : (A : Type 0) (blank sign : Bool) (x y z : A) → blank ≡ false → sign ≡ false → cond blank x (cond sign y z) ≡ z
chosen A false false x y z is sign_is = refl
chosen A true sign x y z is sign_is = absurd cc
chosen A false true x y z is sign_is = absurd cc

left : (x y : Bool) → (x || y) ≡ false → x ≡ false
left false y is = refl
left true y is = absurd cc

right : (x y : Bool) → (x || y) ≡ false → y ≡ false
right false y is = is
right true y is = absurd cc

neither : (x y : Bool) → x ≡ false → y ≡ false → (x || y) ≡ false
neither false false is sign_is = refl
neither true y is sign_is = absurd cc
neither false true is sign_is = absurd cc

pub blank_skipped : (byte : ℕ) (more : List ℕ) → is_blank byte ≡ true → words_of more ≡ words_of (byte ∷ more)
unfolding words_of
blank_skipped byte more blank = subst (λ (x : Bool). words_of more ≡ cond x (words_of more) (cond (eqb byte 61) ((byte ∷ []) ∷ words_of more) (words_with byte more (words_of more)))) (sym blank) refl

words_with_at : (byte next : ℕ) (more : List ℕ) (ends : Bool) → ends_word next ≡ ends → (ends ≡ false → words_of (next ∷ more) ≡ cut_after next more (word_len more))
    → words_with byte (next ∷ more) (words_of (next ∷ more)) ≡ cut_after byte (next ∷ more) (word_len (next ∷ more))
words_with_at byte next more ends is rest =
    let F : Bool → Type 0 = λ x. cond x ((byte ∷ []) ∷ words_of (next ∷ more)) (with_byte byte (words_of (next ∷ more))) ≡ cut_after byte (next ∷ more) (cond (not x) (1 + word_len more) 0) in
    subst F (sym is) (by_cases ends rest)
  where
    by_cases : (x : Bool) → (x ≡ false → words_of (next ∷ more) ≡ cut_after next more (word_len more))
        → cond x ((byte ∷ []) ∷ words_of (next ∷ more)) (with_byte byte (words_of (next ∷ more))) ≡ cut_after byte (next ∷ more) (cond (not x) (1 + word_len more) 0)
    by_cases true rest = refl
    by_cases false rest = ap (with_byte byte) (rest refl ∙ more_at next more (word_len more))

pub first_of_words : (byte : ℕ) (more : List ℕ) → is_blank byte ≡ false → eqb byte 61 ≡ false → words_of (byte ∷ more) ≡ cut_after byte more (word_len more)
unfolding words_of
first_of_words byte [] blank sign = chosen _ (is_blank byte) (eqb byte 61) _ _ _ blank sign
first_of_words byte (next ∷ more) blank sign =
    chosen _ (is_blank byte) (eqb byte 61) _ _ _ blank sign
    ∙ words_with_at byte next more (ends_word next) refl (λ is. first_of_words next more (left (is_blank next) (eqb next 61) is) (right (is_blank next) (eqb next 61) is))

pub word_first : (text : List ℕ) → BeginsWord text → words_of text ≡ cut_at text (first_word_len text)
unfolding words_of
word_first [] begins = absurd begins
word_first (byte ∷ more) begins = by_sign (eqb byte 61) refl
  where
    by_sign : (s : Bool) → eqb byte 61 ≡ s → words_of (byte ∷ more) ≡ cut_at (byte ∷ more) (cond s 1 (word_len (byte ∷ more)))
    by_sign true sign = ap (λ (x : ℕ). words_of (x ∷ more)) (eqb-true byte 61 sign) ∙ ap (λ (x : ℕ). (x ∷ []) ∷ words_of more) (sym (eqb-true byte 61 sign))
    by_sign false sign =
        let len : word_len (byte ∷ more) ≡ 1 + word_len more = ap (λ (x : Bool). cond (not x) (1 + word_len more) 0) (neither (is_blank byte) (eqb byte 61) begins sign) in
        first_of_words byte more begins sign ∙ more_at byte more (word_len more) ∙ ap (cut_at (byte ∷ more)) (sym len)

pub word_at : (text word rest : List ℕ) (len : ℕ) → BeginsWord text → len ≡ first_word_len text → word ≡ take len text → rest ≡ drop len text → words_of text ≡ word ∷ words_of rest
word_at text word rest len begins len_is word_is rest_is = word_first text begins ∙ ap (cut_at text) (sym len_is) ∙ rw (word_is, rest_is) refl

pub skipped : (words total : List (List ℕ)) (text rest : List ℕ) → 1 ≤ length text → is_blank (get_or text 0 0) ≡ true → rest ≡ take (length text - 1) (drop 1 text)
    → words ++ words_of text ≡ total → words ++ words_of rest ≡ total
skipped words total [] rest some blank is so_far = absurd (omega arith)
skipped words total (byte ∷ more) rest some blank is so_far =
    let is : rest ≡ more = is ∙ rw sub-one (take-length more) in
    ap (λ (w : List (List ℕ)). words ++ w) (ap words_of is ∙ blank_skipped byte more blank) ∙ so_far

pub all_words : (words total : List (List ℕ)) (rest : List ℕ) → length rest < 1 → words ++ words_of rest ≡ total → words ≡ total
unfolding words_of
all_words words total [] short so_far = sym (append-nil words) ∙ so_far
all_words words total (byte ∷ rest) short so_far = absurd (omega arith)
