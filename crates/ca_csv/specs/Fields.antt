-- The fields of a record of two, and fields that are decimal digits.
use Rattle.std.specs.Prelude.{ℕ, ◌≡◌, ◌≢◌, ◌<◌, ◌^◌, List, [], ◌∷◌, length, decimal}

-- the record has other than two fields
abbrev pub AreNotTwo : List (List ℕ) → Type 0
AreNotTwo fields = length fields ≢ 2

-- these are the two fields
abbrev pub AreTwo : List (List ℕ) → List ℕ → List ℕ → Type 0
AreTwo fields one other = fields ≡ one ∷ other ∷ []

-- the word is the decimal digits of this number below 2^32
abbrev pub IsNumber : List ℕ → ℕ → Type 0
IsNumber word number = (number < 2 ^ 32) × (word ≡ decimal number)

-- it isn't those of any
abbrev pub IsNoNumber : List ℕ → Type 0
IsNoNumber word = (number : ℕ) → number < 2 ^ 32 → word ≡ decimal number → ⊥
