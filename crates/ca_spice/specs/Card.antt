-- The cards of a cell netlist, which their first words tell apart.
use Rattle.std.specs.Prelude.{ℕ, ◌==◌, Bool, ◌||◌, if◌then◌else◌, List, [], ◌∷◌, codes}
use Rattle.std.specs.Str.{bytes_eq}
use Rattle.ca_spice.specs.declared.card.Card.{Card}
use Rattle.ca_spice.specs.declared.card.Card.TheVariants as card

-- the card that a word's first letter gives: M is a transistor, R a resistor, C and D are ignored, and `+` is
-- a continuation of nothing
unfoldable pub card_by_letter : List ℕ → Card
card_by_letter [] = card.Unknown
card_by_letter (letter ∷ word) = if letter == 77 then card.Mos
    else (if letter == 82 then card.Resistor
    else (if letter == 67 || letter == 68 then card.Ignored
    else (if letter == 43 then card.Stray else card.Unknown)))

-- the word begins a card that is ignored, whatever its words are
unfoldable pub is_ignored : List ℕ → Bool
is_ignored word = bytes_eq word (codes ".GLOBAL") || bytes_eq word (codes ".PARAM")
    || bytes_eq word (codes ".OPTION") || bytes_eq word (codes ".OPTIONS") || bytes_eq word (codes ".END")

-- the card that a first word begins
unfoldable pub card_of : List ℕ → Card
card_of word = if bytes_eq word (codes ".SUBCKT") then card.Subckt
    else (if bytes_eq word (codes ".ENDS") then card.Ends
    else (if bytes_eq word (codes "*.PININFO") then card.PinInfo
    else (if is_ignored word then card.Ignored else card_by_letter word)))
