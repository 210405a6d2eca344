-- What the code keeps while it joins physical lines to logical ones.
use Rattle.std.specs.Prelude.{ℕ, ◌≡◌, ◌+◌, true, false, List, [], ◌∷◌, ◌++◌, Option, Some, None}
use Rattle.ca_lex.specs.declared.lines.Line.{Line}
use Rattle.ca_lex.specs.declared.physical.Piece.{Piece}
use Rattle.ca_lex.specs.declared.physical.Piece.TheVariants as piece
use Rattle.ca_lex.specs.Physical.{Physical, Nothing, Continuation, PinInfo, Card}
use Rattle.ca_lex.specs.Lines.{continued, logical_from}

-- the physical line that a piece is
abbrev pub physical : Piece → Physical
physical piece.Nothing = Nothing
physical (piece.Continuation text) = Continuation text.now
physical (piece.PinInfo text) = PinInfo text.now
physical (piece.Card text) = Card text.now

-- the lines, and the card that could be continued
abbrev pub with_last : List Line → Option Line → List Line
with_last lines None = lines
with_last lines (Some card) = lines ++ card ∷ []

-- the lines, the card that could be continued, and what the physical lines from this number on make of it
unfoldable pub joined : List Line → Option Line → ℕ → List Physical → List Line
joined lines None number more = lines ++ logical_from number false more
joined lines (Some card) number more =
    lines ++ record { line = card.line; text = card.text ++ continued more } ∷ logical_from number true more

-- what was kept before a piece comes to the same, with the piece and any physical lines, as what is kept
-- after it with these
abbrev pub TakesOver : List Line → Option Line → ℕ → Physical → List Line → Option Line → Type 0
TakesOver lines last number piece after_lines after_last =
    (more : List Physical) → joined after_lines after_last (number + 1) more
    ≡ joined lines last number (piece ∷ more)
