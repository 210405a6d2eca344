-- The logical lines of a cell netlist: a card with what continues it, or the roles of pins.
use Rattle.std.specs.Prelude.{ℕ, ◌+◌, Bool, true, false, List, [], ◌∷◌, ◌++◌, map}
use Rattle.ca_lex.specs.declared.lines.Line.{Line}
use Rattle.ca_lex.specs.Physical.{lines_of, Physical, Nothing, Continuation, PinInfo, Card, physical_of}

-- what these physical lines, up to the next card, add to the card before them: a blank and the text of each
-- continuation
unfoldable pub continued : List Physical → List ℕ
continued [] = []
continued (Nothing ∷ more) = continued more
continued (Continuation text ∷ more) = 32 ∷ text ++ continued more
continued (PinInfo text ∷ more) = []
continued (Card text ∷ more) = []

-- the logical lines of these physical lines, the first of which has this number; `follows_card` says whether
-- the logical line before them is a card, which alone can be continued: a continuation of nothing is a line
-- that keeps its `+`
unfoldable pub logical_from : ℕ → Bool → List Physical → List Line
logical_from number follows_card [] = []
logical_from number follows_card (Nothing ∷ more) = logical_from (number + 1) follows_card more
logical_from number true (Continuation text ∷ more) = logical_from (number + 1) true more
logical_from number false (Continuation text ∷ more) =
    record { line = number; text = 43 ∷ text } ∷ logical_from (number + 1) false more
logical_from number follows_card (PinInfo text ∷ more) =
    record { line = number; text = text } ∷ logical_from (number + 1) false more
logical_from number follows_card (Card text ∷ more) =
    record { line = number; text = text ++ continued more } ∷ logical_from (number + 1) true more

-- the logical lines of a text, each with the number of its first physical line, counted from 1
abbrev pub spice_lines : List ℕ → List Line
spice_lines text = logical_from 1 false (map physical_of (lines_of text))
