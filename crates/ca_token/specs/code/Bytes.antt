-- Words of the code beside those of `specs/Bytes.antt`. Private functions and proofs cite them.
use Rattle.std.specs.Prelude.{ℕ, Bool, false, List, [], ◌∷◌}
use Rattle.ca_token.specs.Bytes.{is_digit}

-- the text begins with a digit
abbrev pub begins_digit : List ℕ → Bool
begins_digit [] = false
begins_digit (first ∷ more) = is_digit first
