-- A chain with more cells than any text has bytes: no text has a pair for it.
use Rattle.std.specs.Prelude.{⊤, ◌^◌, ◌<◌, List, [], ◌∷◌, ◌++◌, length, Option, Some, None, codes, decimal}
use Rattle.ca_stil_form.specs.Form.{Token}
use Rattle.ca_stil_form.specs.Frame.{Names, Scan, quoted}
use Rattle.ca_stil_form.specs.Tokens.{tokens_of}

-- what stands before the first word of the first pair: the pair's label, and the key of the first chain
abbrev pub due_before : Names → List Token
due_before [] = []
due_before (name ∷ names) =
    (quoted (codes "pair " ++ decimal 0)
    ∷ (tokens_of (codes ": ") ++ tokens_of (codes "Macro \"_shift_\" {")))
    ++ quoted name ∷ tokens_of (codes "=")

abbrev pub first_due : Option Scan → List Token
first_due None = []
first_due (Some scan) = due_before scan.1.0

-- the first token, if there is one, is no longer than a text can be
abbrev pub BeginsShort : List Token → Type 0
BeginsShort [] = ⊤
BeginsShort (token ∷ tokens) = length token < 2 ^ 64
