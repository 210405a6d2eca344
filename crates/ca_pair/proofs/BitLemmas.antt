-- Lists of the bits in words.
use Rattle.std.proofs.Common.{◌≡◌, ◌≢◌, ℕ, zero, suc, ◌+◌, ◌<◌, ◌≤◌, ◌/◌, ◌%◌, List, [], ◌∷◌, ◌++◌, length}
use Rattle.std.proofs.Common.{Bool, refl, sym, ◌∙◌, ap, arith, Some, inl, inr, get_or, slice_set}
use Rattle.std.specs.Prelude.{slice_get, ◌==◌}
use Rattle.std.specs.Int.{bit_at}
use Rattle.std.proofs.lemmas.Bool.{cases_eq}
use Rattle.std.proofs.lemmas.List.{get_or-set_same, get_or-set_other}
use Rattle.ca_pair.specs.code.Bits.{bit_in, bits_from}

pub length-bits_from : (words : List ℕ) (from count : ℕ) → length (bits_from words from count) ≡ count
unfolding bits_from
length-bits_from words from zero = refl
length-bits_from words from (suc count) = ap suc (length-bits_from words (from + 1) count)

pub no_bits : (words : List ℕ) → bits_from words 0 0 ≡ []
unfolding bits_from
no_bits words = refl

-- a bit of the list is the one at its place
bit_from : (words : List ℕ) (from count k : ℕ) → k < count
    → slice_get (bits_from words from count) k ≡ Some (bit_in words (from + k))
unfolding bits_from
bit_from words from zero k within = absurd (omega arith)
bit_from words from (suc count) zero within =
    ap (λ (place : ℕ). Some (bit_in words place)) (let e : from ≡ from + 0 = omega arith in e)
bit_from words from (suc count) (suc k) within =
    bit_from words (from + 1) count k (omega arith)
    ∙ ap (λ (place : ℕ). Some (bit_in words place)) (let e : from + 1 + k ≡ from + suc k = omega arith in e)

pub bit_there : (words : List ℕ) (count k : ℕ) → k < count
    → slice_get (bits_from words 0 count) k ≡ Some (bit_in words k)
bit_there words count k within =
    bit_from words 0 count k within ∙ ap (λ (place : ℕ). Some (bit_in words place)) (let e : 0 + k ≡ k = omega arith in e)

-- one bit more
next_from : (words : List ℕ) (from count : ℕ)
    → bits_from words from (suc count) ≡ bits_from words from count ++ bit_in words (from + count) ∷ []
unfolding bits_from
next_from words from zero = ap (λ (place : ℕ). bit_in words place ∷ []) (let e : from ≡ from + 0 = omega arith in e)
next_from words from (suc count) =
    ap (λ (bits : List Bool). bit_in words from ∷ bits) (next_from words (from + 1) count)
    ∙ ap (λ (place : ℕ). bit_in words from ∷ (bits_from words (from + 1) count ++ bit_in words place ∷ []))
    (let e : from + 1 + count ≡ from + suc count = omega arith in e)

-- words with the same bits give the same list
same_from : (words others : List ℕ) (from count : ℕ)
    → ((k : ℕ) → from ≤ k → k < from + count → bit_in words k ≡ bit_in others k)
    → bits_from words from count ≡ bits_from others from count
unfolding bits_from
same_from words others from zero same = refl
same_from words others from (suc count) same =
    ap (λ (bit : Bool). bit ∷ bits_from words (from + 1) count) (same from (omega arith) (omega arith))
    ∙ ap (λ (bits : List Bool). bit_in others from ∷ bits)
    (same_from words others (from + 1) count (λ k low high. same k (omega arith) (omega arith)))

-- words that differ in the next bit alone give the list with that bit after it
pub bit_added : (words others : List ℕ) (count : ℕ) (bit : Bool) → bit_in others count ≡ bit
    → ((k : ℕ) → k < count → bit_in others k ≡ bit_in words k)
    → bits_from others 0 (count + 1) ≡ bits_from words 0 count ++ bit ∷ []
bit_added words others count bit here same =
    ap (bits_from others 0) (let e : count + 1 ≡ suc count = omega arith in e) ∙ next_from others 0 count
    ∙ ap (λ (bits : List Bool). bits ++ bit_in others (0 + count) ∷ [])
    (same_from others words 0 count (λ k low high. same k (omega arith)))
    ∙ ap (λ (last : Bool). bits_from words 0 count ++ last ∷ [])
    (ap (bit_in others) (let e : 0 + count ≡ count = omega arith in e) ∙ here)

-- a further word changes no bit
pub word_added : (words : List ℕ) (place : ℕ) → place / 64 < length words → bit_in (words ++ 0 ∷ []) place ≡ bit_in words place
word_added words place within = ap (λ (word : ℕ). bit_at word (place % 64) == 1) (first_stays words (place / 64) within)
  where
    first_stays : (words : List ℕ) (k : ℕ) → k < length words → get_or (words ++ 0 ∷ []) k 0 ≡ get_or words k 0
    first_stays [] k lt = absurd (omega arith)
    first_stays (w ∷ words) zero lt = refl
    first_stays (w ∷ words) (suc k) lt = first_stays words k (omega arith)

-- a word that differs in one bit
pub bit_elsewhere : (words : List ℕ) (place word : ℕ) → place / 64 < length words
    → ((i : ℕ) → i < 64 → i ≢ place % 64 → bit_at word i ≡ bit_at (get_or words (place / 64) 0) i)
    → (other : ℕ) → other ≢ place → bit_in (slice_set words (place / 64) word) other ≡ bit_in words other
bit_elsewhere words place word within same other apart =
    ap (λ (b : ℕ). b == 1) (elim (cases_eq (other / 64) (place / 64)) [
      | inr e ↦ ap (λ w. bit_at w (other % 64)) (get_or-set_other words (place / 64) (other / 64) word 0 e)
      | inl e ↦
          let here : get_or (slice_set words (place / 64) word) (other / 64) 0 ≡ word =
          ap (λ k. get_or (slice_set words (place / 64) word) k 0) e ∙ get_or-set_same words (place / 64) word 0 within in
          ap (λ w. bit_at w (other % 64)) here
          ∙ same (other % 64) (omega arith) (λ k. apart (omega arith))
          ∙ ap (λ k. bit_at (get_or words k 0) (other % 64)) (sym e)
    ])

pub bit_here : (words : List ℕ) (place word : ℕ) → place / 64 < length words
    → bit_in (slice_set words (place / 64) word) place ≡ (bit_at word (place % 64) == 1)
bit_here words place word within =
    ap (λ (w : ℕ). bit_at w (place % 64) == 1) (get_or-set_same words (place / 64) word 0 within)
