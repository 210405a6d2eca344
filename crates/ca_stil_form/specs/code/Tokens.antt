-- Words of the code beside those of `specs/Tokens.antt`. Private functions and proofs cite them.
use Rattle.std.specs.Prelude.{ℕ, ◌≡◌, false, not, List, [], ◌∷◌}
use Rattle.ca_stil_form.specs.Tokens.{is_space}

-- the text begins with a token, and not with a space
abbrev pub BeginsToken : List ℕ → Type 0
BeginsToken [] = ⊥
BeginsToken (byte ∷ bytes) = is_space byte ≡ false

-- the text is empty, or begins with a token
abbrev pub IsTrimmed : List ℕ → Type 0
IsTrimmed [] = Unit {0}
IsTrimmed (byte ∷ bytes) = is_space byte ≡ false
