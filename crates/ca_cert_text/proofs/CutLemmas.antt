-- A text is cut at one place.
use Rattle.std.proofs.Common.{◌≡◌, ℕ, suc, ◌==◌, Bool, true, false, List, [], ◌∷◌, ◌++◌, length, take, drop, refl}
use Rattle.std.proofs.Common.{sym, ap, ◌∙◌, subst}
use Rattle.std.proofs.lemmas.Bool.{eqb-true, eq-eqb}
use Rattle.std.proofs.Math.Seq.{take-append_seam, drop-append_seam}
use Rattle.ca_cert_text.specs.code.Cut.{len_before, IsFree, BeginsWith, IsOnlyCut}

-- the length before a byte, by whether the first byte is the one
abbrev length_by : ℕ → List ℕ → Bool → ℕ
length_by byte rest true = 0
length_by byte rest false = suc (len_before byte rest)

by_first : (byte first : ℕ) (rest : List ℕ) (test : Bool) → (first == byte) ≡ test
    → len_before byte (first ∷ rest) ≡ length_by byte rest test
unfolding len_before
by_first byte first rest true is =
    ap (λ (test : Bool). elim test as (λ _. ℕ) [ true ↦ 0 | false ↦ suc (len_before byte rest) ]) is
by_first byte first rest false is =
    ap (λ (test : Bool). elim test as (λ _. ℕ) [ true ↦ 0 | false ↦ suc (len_before byte rest) ]) is

no_bytes : (byte : ℕ) → len_before byte [] ≡ 0
unfolding len_before
no_bytes byte = refl

-- numbers that aren't equal are seen not to be
differs : (a b : ℕ) → (a ≡ b → ⊥) → (a == b) ≡ false
differs a b not = by (a == b) refl
  where
    by : (test : Bool) → (a == b) ≡ test → (a == b) ≡ false
    by true is = absurd (not (eqb-true a b is))
    by false is = is

-- the bytes before the one, where nothing or the one follows them
pub cut_length : (byte : ℕ) (front rest : List ℕ) → IsFree byte front → BeginsWith byte rest
    → len_before byte (front ++ rest) ≡ length front
unfolding IsFree
cut_length byte [] [] free begins = no_bytes byte
cut_length byte [] (first ∷ rest) free begins = by_first byte first rest true (eq-eqb first byte begins)
cut_length byte (first ∷ front) rest free begins =
    by_first byte first (front ++ rest) false (differs first byte free.0)
    ∙ ap suc (cut_length byte front rest free.1 begins)

-- what is cut off begins with the byte, or is nothing
pub cut_begins : (byte : ℕ) (text : List ℕ) → BeginsWith byte (drop (len_before byte text) text)
cut_begins byte [] = subst (λ n. BeginsWith byte (drop n [])) (sym (no_bytes byte)) tt
cut_begins byte (first ∷ rest) = by (cut_begins byte rest) (first == byte) refl
  where
    by : BeginsWith byte (drop (len_before byte rest) rest) → (test : Bool) → (first == byte) ≡ test
        → BeginsWith byte (drop (len_before byte (first ∷ rest)) (first ∷ rest))
    by later true is =
        subst (λ n. BeginsWith byte (drop n (first ∷ rest))) (sym (by_first byte first rest true is))
        (eqb-true first byte is)
    by later false is = subst (λ n. BeginsWith byte (drop n (first ∷ rest)))
        (sym (by_first byte first rest false is)) later

-- the two parts of a text are the only ones of their kind
pub cut_only : (byte : ℕ) (text : List ℕ)
    → IsOnlyCut byte text (take (len_before byte text) text) (drop (len_before byte text) text)
cut_only byte text front rest free begins is =
    let at : len_before byte text ≡ length front = ap (len_before byte) is
    ∙ cut_length byte front rest free begins in (
      sym (take-append_seam front rest) ∙ (λ i. take (sym at i) (sym is i)),
      sym (drop-append_seam front rest) ∙ (λ i. drop (sym at i) (sym is i)),
    )
