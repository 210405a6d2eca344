-- Words of the code beside those of `specs/Piece.antt`. Private functions and proofs cite them.
use Rattle.std.specs.Prelude.{ℕ, ◌-◌, ◌<◌, ◌≤◌}
use Rattle.ca_token.specs.declared.piece.Piece.{Piece}
use Rattle.ca_token.specs.declared.piece.Piece.TheVariants.{Blank, Skipped, Found, Broken}

-- the piece is within `count` bytes, and has some
abbrev pub IsWithin : ℕ → Piece → Type 0
IsWithin count Blank = 0 < count
IsWithin count (Skipped len) = (0 < len) × (len ≤ count)
IsWithin count (Found kind len) = (0 < len) × (len ≤ count)
IsWithin count (Broken shift kind) = shift < count
