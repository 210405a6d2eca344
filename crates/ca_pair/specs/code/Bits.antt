-- What only proofs of code cite: bits in words of 64.
use Rattle.std.specs.Prelude.{ℕ, zero, suc, ◌+◌, ◌/◌, ◌%◌, ◌==◌, Bool, List, [], ◌∷◌, slice_index}
use Rattle.std.specs.Int.{bit_at}

-- the bit at a place of the words
abbrev pub bit_in : List ℕ → ℕ → Bool
bit_in words place = bit_at (slice_index words (place / 64)) (place % 64) == 1

-- this many bits of the words, from a place on
unfoldable pub bits_from : List ℕ → ℕ → ℕ → List Bool
bits_from words place zero = []
bits_from words place (suc count) = bit_in words place ∷ bits_from words (place + 1) count
