-- The words of a line that was read.
use Rattle.std.proofs.Common.{◌≡◌, ℕ, ◌+◌, ◌<◌, Bool, true, false, true≢false, ◌||◌, ◌&&◌, inl, inr, cond}
use Rattle.std.proofs.Common.{not, eqb, List, [], ◌∷◌, ◌++◌, map, take, drop, refl, sym, ap, ◌∙◌, subst}
use Rattle.std.proofs.Common.{arith}
use Rattle.std.specs.Char.{to_ascii_uppercase}
use Rattle.std.specs.List.{AllByRecursion, list_all}
use Rattle.std.proofs.Math.Numerals.{one-add}
use Rattle.std.proofs.lemmas.List.{append-nil}
use Rattle.std.proofs.lemmas.List.Elements.{recursion_from_All}
use Rattle.std.proofs.lemmas.Bool.{eqb-true}
use Rattle.std.proofs.lemmas.Bool.Decides.{nat_tests}
use Rattle.ca_lex.specs.declared.lines.Line.{Line}
use Rattle.ca_lex.specs.Words.{is_blank, ends_word, word_len, with_byte, words_with, words_of, upper_case}
use Rattle.ca_lex.specs.Physical.{without_comment, is_pin_info, lines_of, Physical, Nothing, Continuation}
use Rattle.ca_lex.specs.Physical.{PinInfo, Card, card_of, physical_at, physical_of}
use Rattle.ca_lex.specs.Lines.{continued, logical_from, spice_lines}
use Rattle.ca_lex.proofs.WordLemmas.{first_of_words}
use Rattle.ca_spice.specs.Names.{is_text}
use Rattle.ca_spice.specs.code.Kept.{IsUpper}
use Rattle.ca_spice.proofs.SpelledLemmas.{HasNoComment, IsInside, IsOneWord, IsSpelled, not_blank, not_sign}
use Rattle.ca_spice.proofs.SpelledLemmas.{shown_spaced, shown_before}
use Rattle.ca_spice.proofs.UpperLemmas.{words_of-upper}
use Rattle.ca_spice.proofs.PinLemmas.{left_true, right_true}

-- no word of it begins a comment
abbrev IsShown : List ℕ → Type 0
IsShown word = HasNoComment true word

inside : (byte : ℕ) → is_blank byte ≡ false → eqb byte 61 ≡ false → IsInside byte
inside byte blank sign = ap (λ (x : Bool). x || eqb byte 61) blank ∙ sign

one_with : (byte : ℕ) (more : List ℕ) → is_blank byte ≡ false → eqb byte 61 ≡ false → AllByRecursion IsOneWord (words_of more) → AllByRecursion IsOneWord (words_with byte more (words_of more))
one_with byte [] blank sign all = (inr (inside byte blank sign, tt), all)
one_with byte (next ∷ more) blank sign all = by (ends_word next) refl
  where
    longer : (word : List ℕ) → ends_word next ≡ false → IsOneWord (next ∷ word) → IsOneWord (byte ∷ next ∷ word)
    longer word ends (inl is) =
        let same : next ≡ 61 = cc in
        absurd (true≢false (sym (ap (λ (n : ℕ). eqb n 61) same) ∙ not_sign next ends))
    longer word ends (inr are) = inr (inside byte blank sign, are)

    by : (ends : Bool) → ends_word next ≡ ends → AllByRecursion IsOneWord (cond ends ((byte ∷ []) ∷ words_of (next ∷ more)) (with_byte byte (words_of (next ∷ more))))
    by true ends = (inr (inside byte blank sign, tt), all)
    by false ends =
        let first : words_of (next ∷ more) ≡ (next ∷ take (word_len more) more) ∷ words_of (drop (word_len more) more) =
        first_of_words next more (not_blank next ends) (not_sign next ends) in
        let split : AllByRecursion IsOneWord ((next ∷ take (word_len more) more) ∷ words_of (drop (word_len more) more)) = subst (AllByRecursion IsOneWord) first all in
        subst (λ (words : List (List ℕ)). AllByRecursion IsOneWord (with_byte byte words)) (sym first)
        (longer (take (word_len more) more) ends split.0, split.1)

-- each word of a text is one word
pub words_one : (text : List ℕ) → AllByRecursion IsOneWord (words_of text)
unfolding words_of
words_one [] = tt
words_one (byte ∷ text) = by (is_blank byte) (eqb byte 61) refl refl (words_one text)
  where
    by : (blank sign : Bool) → is_blank byte ≡ blank → eqb byte 61 ≡ sign → AllByRecursion IsOneWord (words_of text)
        → AllByRecursion IsOneWord (cond blank (words_of text) (cond sign ((byte ∷ []) ∷ words_of text) (words_with byte text (words_of text))))
    by true sign is sign_is all = all
    by false true is sign_is all = (inl (ap (λ (b : ℕ). b ∷ []) (eqb-true byte 61 sign_is)), all)
    by false false is sign_is all = one_with byte text is sign_is all

-- the front of a text up to the end of its first word shows no comment where a word can't begin
front_shown : (text : List ℕ) → HasNoComment false (take (word_len text) text)
front_shown [] = tt
front_shown (byte ∷ text) = by (ends_word byte) refl (front_shown text)
  where
    by : (ends : Bool) → ends_word byte ≡ ends → HasNoComment false (take (word_len text) text)
        → HasNoComment false (take (cond (not ends) (1 + word_len text) 0) (byte ∷ text))
    by true is front = tt
    by false is front = rw one-add (refl, subst (λ (b : Bool). HasNoComment b (take (word_len text) text)) (sym is) front)

-- a byte that ends words adds no comment
ender_shown : (byte : ℕ) (text : List ℕ) → ends_word byte ≡ true → AllByRecursion IsShown (words_of text) → AllByRecursion IsShown (words_of (byte ∷ text))
unfolding words_of
ender_shown byte text ends all = by (is_blank byte) (eqb byte 61) refl ends
  where
    by : (blank sign : Bool) → eqb byte 61 ≡ sign → (blank || sign) ≡ true
        → AllByRecursion IsShown (cond blank (words_of text) (cond sign ((byte ∷ []) ∷ words_of text) (words_with byte text (words_of text))))
    by true sign is ends = all
    by false true is ends = ((ap (λ (b : ℕ). eqb b 36) (eqb-true byte 61 is), tt), all)
    by false false is ends = absurd cc

-- words of a text without a comment show none
pub words_shown : (begins : Bool) (text : List ℕ) → HasNoComment begins text
    → AllByRecursion IsShown (words_of (drop (word_len text) text)) × (begins ≡ true → AllByRecursion IsShown (words_of text))
unfolding words_of
words_shown begins [] shown = (tt, λ _. tt)
words_shown begins (byte ∷ text) shown = by (ends_word byte) refl (words_shown (ends_word byte) text shown.1)
  where
    by : (ends : Bool) → ends_word byte ≡ ends
        → AllByRecursion IsShown (words_of (drop (word_len text) text)) × (ends_word byte ≡ true → AllByRecursion IsShown (words_of text))
        → AllByRecursion IsShown (words_of (drop (cond (not ends) (1 + word_len text) 0) (byte ∷ text))) × (begins ≡ true → AllByRecursion IsShown (words_of (byte ∷ text)))
    by true is following =
        let all : AllByRecursion IsShown (words_of (byte ∷ text)) = ender_shown byte text is (following.1 is) in
        (all, λ _. all)
    by false is following =
        let rest : AllByRecursion IsShown (words_of (drop (word_len text) text)) = following.0 in (
          rw one-add rest,
          λ (first : begins ≡ true).
              let front : (true && eqb byte 36) ≡ false = subst (λ (b : Bool). (b && eqb byte 36) ≡ false) first shown.0 in
              let here : IsShown (byte ∷ take (word_len text) text) =
              (front, subst (λ (b : Bool). HasNoComment b (take (word_len text) text)) (sym is) (front_shown text)) in
              subst (AllByRecursion IsShown) (sym (first_of_words byte text (not_blank byte is) (not_sign byte is))) (here, rest),
        )

-- upper case moves no byte to or from those below the letters
same_test : (byte other : ℕ) → other < 65 → eqb (to_ascii_uppercase byte) other ≡ eqb byte other
same_test byte other below = grind (arith, nat_tests)

pub upper_shown : (begins : Bool) (text : List ℕ) → HasNoComment begins text → HasNoComment begins (upper_case text)
upper_shown begins [] shown = tt
upper_shown begins (byte ∷ text) shown =
    let comment = same_test byte 36 (omega arith) in
    let space = same_test byte 32 (omega arith) in
    let tab = same_test byte 9 (omega arith) in
    let back = same_test byte 13 (omega arith) in
    let sign = same_test byte 61 (omega arith) in
    let ends : ends_word (to_ascii_uppercase byte) ≡ ends_word byte = λ j. (space j || tab j || back j) || sign j in (
      ap (λ (x : Bool). begins && x) comment ∙ shown.0,
      subst (λ (b : Bool). HasNoComment b (upper_case text)) (sym ends) (upper_shown (ends_word byte) text shown.1),
    )

joined : (words : List (List ℕ)) → AllByRecursion IsOneWord words → AllByRecursion IsShown words → AllByRecursion IsUpper words → list_all is_text words ≡ true → AllByRecursion IsSpelled words
joined [] one shown upper text = tt
joined (word ∷ words) one shown upper text = (
  record { one = one.0; shown = shown.0; upper = upper.0; text = left_true (is_text word) (list_all is_text words) text },
  joined words one.1 shown.1 upper.1 (right_true (is_text word) (list_all is_text words) text),
)

-- the words of a line without a comment, if their bytes may be in words
pub words_spelled : (text : List ℕ) → HasNoComment true text → list_all is_text (words_of (upper_case text)) ≡ true → AllByRecursion IsSpelled (words_of (upper_case text))
words_spelled text shown are =
    joined (words_of (upper_case text)) (words_one (upper_case text)) ((words_shown true (upper_case text) (upper_shown true text shown)).1 refl)
    (recursion_from_All IsUpper (words_of (upper_case text)) (words_of-upper text)) are

-- a physical line without its comment
abbrev IsShownLine : Physical → Type 0
IsShownLine Nothing = Unit {0}
IsShownLine (Continuation text) = IsShown text
IsShownLine (PinInfo text) = IsShown text
IsShownLine (Card text) = IsShown text

card_shown : (text : List ℕ) → IsShown text → IsShownLine (card_of text)
unfolding card_of
card_shown [] shown = tt
card_shown (byte ∷ text) shown = shown

physical_shown : (line : List ℕ) → IsShownLine (physical_at line)
unfolding physical_at
physical_shown [] = tt
physical_shown (byte ∷ more) = by (eqb byte 42) (is_pin_info (byte ∷ more)) (eqb byte 43)
  where
    by : (star info plus : Bool) → IsShownLine (cond star (cond info (PinInfo (without_comment (byte ∷ more))) Nothing)
        (cond plus (Continuation (without_comment more)) (card_of (without_comment (byte ∷ more)))))
    by true true plus = shown_before true (byte ∷ more)
    by true false plus = tt
    by false info true = shown_before true more
    by false info false = card_shown (without_comment (byte ∷ more)) (shown_before true (byte ∷ more))

physicals_shown : (lines : List (List ℕ)) → AllByRecursion IsShownLine (map physical_of lines)
physicals_shown [] = tt
physicals_shown (line ∷ lines) = (physical_shown _, physicals_shown lines)

continued_shown : (text : List ℕ) (more : List Physical) → IsShown text → AllByRecursion IsShownLine more → IsShown (text ++ continued more)
unfolding continued
continued_shown text [] shown all = subst IsShown (sym (append-nil text)) shown
continued_shown text (Nothing ∷ more) shown all = continued_shown text more shown all.1
continued_shown text (Continuation next ∷ more) shown all = shown_spaced true text (next ++ continued more) shown (continued_shown next more all.0 all.1)
continued_shown text (PinInfo next ∷ more) shown all = subst IsShown (sym (append-nil text)) shown
continued_shown text (Card next ∷ more) shown all = subst IsShown (sym (append-nil text)) shown

-- a logical line
abbrev pub IsShownText : Line → Type 0
IsShownText line = HasNoComment true line.text

logical_shown : (number : ℕ) (follows : Bool) (lines : List Physical) → AllByRecursion IsShownLine lines → AllByRecursion IsShownText (logical_from number follows lines)
unfolding logical_from
logical_shown number follows [] all = tt
logical_shown number follows (Nothing ∷ more) all = logical_shown (number + 1) follows more all.1
logical_shown number true (Continuation text ∷ more) all = logical_shown (number + 1) true more all.1
logical_shown number false (Continuation text ∷ more) all = ((refl, by text all.0), logical_shown (number + 1) false more all.1)
  where
    by : (text : List ℕ) → IsShown text → HasNoComment false text
    by [] shown = tt
    by (byte ∷ text) shown = (refl, shown.1)
logical_shown number true (PinInfo text ∷ more) all = (all.0, logical_shown (number + 1) false more all.1)
logical_shown number false (PinInfo text ∷ more) all = (all.0, logical_shown (number + 1) false more all.1)
logical_shown number true (Card text ∷ more) all = (continued_shown text more all.0 all.1, logical_shown (number + 1) true more all.1)
logical_shown number false (Card text ∷ more) all = (continued_shown text more all.0 all.1, logical_shown (number + 1) true more all.1)

-- no line of a text has a comment left
pub lines_shown : (text : List ℕ) → AllByRecursion IsShownText (spice_lines text)
lines_shown text = logical_shown 1 false (map physical_of (lines_of text)) (physicals_shown (lines_of text))
