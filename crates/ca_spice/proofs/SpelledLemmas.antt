-- Words that a line spells, and lines of words.
use Rattle.std.proofs.Common.{◌≡◌, ℕ, ◌+◌, Bool, true, false, ◌||◌, ◌&&◌, ◌⊎◌, inl, inr, cond, eqb, List, []}
use Rattle.std.proofs.Common.{◌∷◌, ◌++◌, length, map, take, drop, refl, sym, ap, ◌∙◌, subst}
use Rattle.std.specs.Char.{to_ascii_uppercase}
use Rattle.std.specs.List.{flat_map, AllByRecursion}
use Rattle.std.proofs.Math.Numerals.{one-add}
use Rattle.std.proofs.Math.Seq.{take-length}
use Rattle.std.proofs.lemmas.List.{map-append, append-nil}
use Rattle.ca_lex.specs.Words.{is_blank, ends_word, word_len, with_byte, words_with, words_of, upper_case}
use Rattle.ca_lex.specs.Physical.{code_len, without_comment}
use Rattle.ca_lex.proofs.WordLemmas.{first_of_words}
use Rattle.ca_spice.specs.Names.{is_text}
use Rattle.ca_spice.specs.code.Kept.{IsUpper}
use Rattle.ca_spice.specs.Writing.{spaced}

-- no word of the text begins with `$`, where `begins` says whether a word can begin at once
abbrev pub HasNoComment : Bool → List ℕ → Type 0
HasNoComment begins [] = Unit {0}
HasNoComment begins (byte ∷ more) = ((begins && eqb byte 36) ≡ false) × HasNoComment (ends_word byte) more

-- the byte ends no word
abbrev pub IsInside : ℕ → Type 0
IsInside byte = ends_word byte ≡ false

-- one word: `=`, or bytes of which none ends a word
abbrev pub IsOneWord : List ℕ → Type 0
IsOneWord [] = ⊥
IsOneWord (byte ∷ word) = (byte ∷ word ≡ 61 ∷ []) ⊎ AllByRecursion IsInside (byte ∷ word)

-- a word of a line in upper case, whose bytes may be in one
pub record IsSpelled (word : List ℕ) : Type 0 where
  pub one : IsOneWord word
  pub shown : HasNoComment true word
  pub upper : IsUpper word
  pub text : is_text word ≡ true

-- what holds of each of two lists holds of both together
pub all_append : {X : Type 0} (P : X → Type 0) (first second : List X) → AllByRecursion P first → AllByRecursion P second → AllByRecursion P (first ++ second)
all_append P [] second all following = following
all_append P (x ∷ first) second all following = (all.0, all_append P first second all.1 following)

pub not_blank : (byte : ℕ) → ends_word byte ≡ false → is_blank byte ≡ false
not_blank byte is = by (is_blank byte) (eqb byte 61) is
  where
    by : (blank sign : Bool) → (blank || sign) ≡ false → blank ≡ false
    by true sign is = absurd cc
    by false sign is = refl

pub not_sign : (byte : ℕ) → ends_word byte ≡ false → eqb byte 61 ≡ false
not_sign byte is = by (is_blank byte) (eqb byte 61) is
  where
    by : (blank sign : Bool) → (blank || sign) ≡ false → sign ≡ false
    by true sign is = absurd cc
    by false sign is = is

-- a space parts the words before it from those after it
pub words_of-spaced : (text more : List ℕ) → words_of (text ++ 32 ∷ more) ≡ words_of text ++ words_of more
unfolding words_of
words_of-spaced [] more = refl
words_of-spaced (byte ∷ text) more = by (is_blank byte) (eqb byte 61) (words_of-spaced text more)
  where
    following : (rest : List ℕ) → words_of (rest ++ 32 ∷ more) ≡ words_of rest ++ words_of more
        → words_with byte (rest ++ 32 ∷ more) (words_of (rest ++ 32 ∷ more)) ≡ words_with byte rest (words_of rest) ++ words_of more
    following [] is = refl
    following (next ∷ rest) is = by_next (ends_word next) refl
      where
        by_next : (ends : Bool) → ends_word next ≡ ends
            → cond ends ((byte ∷ []) ∷ words_of (next ∷ rest ++ 32 ∷ more)) (with_byte byte (words_of (next ∷ rest ++ 32 ∷ more)))
            ≡ cond ends ((byte ∷ []) ∷ words_of (next ∷ rest)) (with_byte byte (words_of (next ∷ rest))) ++ words_of more
        by_next true ends = ap (λ (words : List (List ℕ)). (byte ∷ []) ∷ words) is
        by_next false ends =
            let first : words_of (next ∷ rest) ≡ (next ∷ take (word_len rest) rest) ∷ words_of (drop (word_len rest) rest) =
            first_of_words next rest (not_blank next ends) (not_sign next ends) in
            ap (with_byte byte) (is ∙ ap (λ (words : List (List ℕ)). words ++ words_of more) first)
            ∙ sym (ap (λ (words : List (List ℕ)). with_byte byte words ++ words_of more) first)

    by : (blank sign : Bool) → words_of (text ++ 32 ∷ more) ≡ words_of text ++ words_of more
        → cond blank (words_of (text ++ 32 ∷ more)) (cond sign ((byte ∷ []) ∷ words_of (text ++ 32 ∷ more)) (words_with byte (text ++ 32 ∷ more) (words_of (text ++ 32 ∷ more))))
        ≡ cond blank (words_of text) (cond sign ((byte ∷ []) ∷ words_of text) (words_with byte text (words_of text))) ++ words_of more
    by true sign is = is
    by false true is = ap (λ (words : List (List ℕ)). (byte ∷ []) ∷ words) is
    by false false is = following text is

-- bytes of which none ends a word are one word
pub words_of-run : (byte : ℕ) (word : List ℕ) → AllByRecursion IsInside (byte ∷ word) → words_of (byte ∷ word) ≡ (byte ∷ word) ∷ []
unfolding words_of
words_of-run byte [] are =
    ap (λ (x : Bool). cond x [] (cond (eqb byte 61) ((byte ∷ []) ∷ []) ((byte ∷ []) ∷ []))) (not_blank byte are.0)
    ∙ ap (λ (x : Bool). cond x ((byte ∷ []) ∷ []) ((byte ∷ []) ∷ [])) (not_sign byte are.0)
words_of-run byte (next ∷ word) are =
    ap (λ (x : Bool). cond x (words_of (next ∷ word)) (cond (eqb byte 61) ((byte ∷ []) ∷ words_of (next ∷ word)) (words_with byte (next ∷ word) (words_of (next ∷ word))))) (not_blank byte are.0)
    ∙ ap (λ (x : Bool). cond x ((byte ∷ []) ∷ words_of (next ∷ word)) (words_with byte (next ∷ word) (words_of (next ∷ word)))) (not_sign byte are.0)
    ∙ ap (λ (x : Bool). cond x ((byte ∷ []) ∷ words_of (next ∷ word)) (with_byte byte (words_of (next ∷ word)))) are.1.0
    ∙ ap (with_byte byte) (words_of-run next word are.1)

-- the words of one word
pub alone : (word : List ℕ) → IsOneWord word → words_of word ≡ word ∷ []
unfolding words_of
alone [] one = absurd one
alone (byte ∷ word) (inl is) = subst (λ (w : List ℕ). words_of w ≡ w ∷ []) (sym is) refl
alone (byte ∷ word) (inr all) = words_of-run byte word all

-- the words of a line of chunks
pub words_of-chunks : (first : List ℕ) (chunks : List (List ℕ)) → words_of (first ++ flat_map spaced chunks) ≡ words_of first ++ flat_map words_of chunks
words_of-chunks first [] = ap words_of (append-nil first) ∙ sym (append-nil (words_of first))
words_of-chunks first (chunk ∷ chunks) =
    words_of-spaced first (chunk ++ flat_map spaced chunks)
    ∙ ap (λ (words : List (List ℕ)). words_of first ++ words) (words_of-chunks chunk chunks)

-- the upper case of such a line
pub upper-chunks : (first : List ℕ) (chunks : List (List ℕ)) → upper_case (first ++ flat_map spaced chunks) ≡ upper_case first ++ flat_map spaced (map upper_case chunks)
upper-chunks first [] = ap upper_case (append-nil first) ∙ sym (append-nil (upper_case first))
upper-chunks first (chunk ∷ chunks) =
    map-append to_ascii_uppercase first (32 ∷ (chunk ++ flat_map spaced chunks))
    ∙ ap (λ (text : List ℕ). upper_case first ++ 32 ∷ text) (upper-chunks chunk chunks)

-- nor in two texts with a space between
pub shown_spaced : (begins : Bool) (text more : List ℕ) → HasNoComment begins text → HasNoComment true more → HasNoComment begins (text ++ 32 ∷ more)
shown_spaced true [] more shown following = (refl, following)
shown_spaced false [] more shown following = (refl, following)
shown_spaced begins (byte ∷ text) more shown following = (shown.0, shown_spaced (ends_word byte) text more shown.1 following)

pub shown_chunks : (first : List ℕ) (chunks : List (List ℕ)) → HasNoComment true first → AllByRecursion (HasNoComment true) chunks → HasNoComment true (first ++ flat_map spaced chunks)
shown_chunks first [] shown all = subst (HasNoComment true) (sym (append-nil first)) shown
shown_chunks first (chunk ∷ chunks) shown all = shown_spaced true first (chunk ++ flat_map spaced chunks) shown (shown_chunks chunk chunks all.0 all.1)

-- a text with no comment is all code
pub code_len-shown : (begins : Bool) (text : List ℕ) → HasNoComment begins text → code_len begins text ≡ length text
code_len-shown begins [] shown = refl
code_len-shown begins (byte ∷ text) shown =
    ap (λ (x : Bool). cond x 0 (1 + code_len (ends_word byte) text)) shown.0
    ∙ ap (λ (len : ℕ). 1 + len) (code_len-shown (ends_word byte) text shown.1) ∙ one-add (length text)

pub all_code : (text : List ℕ) → HasNoComment true text → without_comment text ≡ text
all_code text shown = ap (λ (len : ℕ). take len text) (code_len-shown true text shown) ∙ take-length text

-- what comes before a comment has none
pub shown_before : (begins : Bool) (line : List ℕ) → HasNoComment begins (take (code_len begins line) line)
shown_before begins [] = tt
shown_before begins (byte ∷ line) = by (begins && eqb byte 36) refl (shown_before (ends_word byte) line)
  where
    by : (comment : Bool) → (begins && eqb byte 36) ≡ comment → HasNoComment (ends_word byte) (take (code_len (ends_word byte) line) line)
        → HasNoComment begins (take (cond comment 0 (1 + code_len (ends_word byte) line)) (byte ∷ line))
    by true is before = tt
    by false is before = rw one-add (is, before)
