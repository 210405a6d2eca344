-- What only proofs of code cite: a text cut before a byte.
use Rattle.std.specs.Prelude.{ℕ, suc, ◌≡◌, ◌==◌, true, false, List, [], ◌∷◌, ◌++◌}

-- the number of bytes before the first that is this one, or of all bytes
unfoldable pub len_before : ℕ → List ℕ → ℕ
len_before byte [] = 0
len_before byte (first ∷ rest) = elim (first == byte) [ true ↦ 0 | false ↦ suc (len_before byte rest) ]

-- the byte is none of these
unfoldable pub IsFree : ℕ → List ℕ → Type 0
IsFree byte [] = Unit {0}
IsFree byte (first ∷ rest) = (first ≡ byte → ⊥) × IsFree byte rest

-- the text is empty, or begins with the byte
abbrev pub BeginsWith : ℕ → List ℕ → Type 0
BeginsWith byte [] = Unit {0}
BeginsWith byte (first ∷ rest) = first ≡ byte

-- where the text is bytes of which none is this one, and then nothing or this one and others, these are the
-- two parts
abbrev pub IsOnlyCut : ℕ → List ℕ → List ℕ → List ℕ → Type 0
IsOnlyCut byte text word after = (front rest : List ℕ) → IsFree byte front → BeginsWith byte rest
    → text ≡ front ++ rest → (front ≡ word) × (rest ≡ after)
