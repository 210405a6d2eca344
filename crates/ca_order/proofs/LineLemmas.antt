-- A line is cut into its first word and the rest.
use Rattle.std.proofs.Common.{◌≡◌, ℕ, suc, ◌<◌, ◌≤◌, ◌==◌, Bool, true, false, List, [], ◌∷◌, length, take}
use Rattle.std.proofs.Common.{drop, ap, arith, refl}
use Rattle.ca_lex.specs.Words.{with_byte}
use Rattle.ca_order.specs.Lines.{words_of}
use Rattle.ca_order.specs.code.Lines.{word_len}

pub word_here : (text : List ℕ) → word_len text < length text
    → words_of text ≡ take (word_len text) text ∷ words_of (drop (suc (word_len text)) text)
unfolding words_of word_len
word_here [] below = absurd (omega (arith, below))
word_here (byte ∷ bytes) below = by (byte == 32) (word_here bytes) below
  where
    by : (test : Bool) → (word_len bytes < length bytes → words_of bytes ≡ take (word_len bytes) bytes ∷ words_of (drop (suc (word_len bytes)) bytes))
        → elim test as (λ _. ℕ) [ true ↦ 0 | false ↦ suc (word_len bytes) ] < suc (length bytes)
        → elim test as (λ _. List (List ℕ)) [ true ↦ [] ∷ words_of bytes | false ↦ with_byte byte (words_of bytes) ]
        ≡ take (elim test as (λ _. ℕ) [ true ↦ 0 | false ↦ suc (word_len bytes) ]) (byte ∷ bytes)
        ∷ words_of (drop (suc (elim test as (λ _. ℕ) [ true ↦ 0 | false ↦ suc (word_len bytes) ])) (byte ∷ bytes))
    by true later below = refl
    by false later below = ap (with_byte byte) (later (omega (arith, below)))

pub word_last : (text : List ℕ) → length text ≤ word_len text → words_of text ≡ text ∷ []
unfolding words_of word_len
word_last [] past = refl
word_last (byte ∷ bytes) past = by (byte == 32) (word_last bytes) past
  where
    by : (test : Bool) → (length bytes ≤ word_len bytes → words_of bytes ≡ bytes ∷ [])
        → suc (length bytes) ≤ elim test as (λ _. ℕ) [ true ↦ 0 | false ↦ suc (word_len bytes) ]
        → elim test as (λ _. List (List ℕ)) [ true ↦ [] ∷ words_of bytes | false ↦ with_byte byte (words_of bytes) ] ≡ (byte ∷ bytes) ∷ []
    by true later past = absurd (omega (arith, past))
    by false later past = ap (with_byte byte) (later (omega (arith, past)))
