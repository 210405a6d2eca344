-- Tokens as numbers below 2^16.
use Rattle.std.specs.Prelude.{ℕ, zero, suc, ◌<◌, ◌/◌, ◌%◌, ◌==◌, List, map}
use Rattle.ca_flat.specs.declared.token.Token.{Token}
use Rattle.ca_flat.specs.declared.token.Token.TheVariants.{Branch, Leaf}
use Rattle.ca_code.specs.declared.token.TheConstants.{MOST_PATTERN_BITS}

-- 0 is a leaf; the numbers 2 × bit + 1 and 2 × bit + 2 are branches on the bit, first to 0 and first to 1
abbrev pub token_of : ℕ → Token
token_of zero = Leaf
token_of (suc number) = Branch (number / 2) (number % 2 == 1)

-- the tokens of these numbers
abbrev pub tokens_of : List ℕ → List Token
tokens_of numbers = map token_of numbers

-- the token has a number
abbrev pub IsNarrow : Token → Type 0
IsNarrow (Branch bit first) = bit < MOST_PATTERN_BITS
IsNarrow Leaf = Unit {0}
