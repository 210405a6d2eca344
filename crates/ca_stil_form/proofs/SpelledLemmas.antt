-- Forms that are put together of forms that are spelled are spelled.
use Rattle.std.proofs.Common.{◌≡◌, ℕ, ◌+◌, Bool, true, ◌&&◌, List, [], ◌∷◌, Option, Some, None}
use Rattle.std.specs.List.{AllByRecursion}
use Rattle.ca_stil_form.specs.Form.{Token, written_until, all_allowed, written_maybe, allowed_maybe}
use Rattle.ca_stil_form.specs.Form.{written_each, all_each}
use Rattle.ca_stil_form.specs.Tokens.{Between}
use Rattle.ca_stil_form.specs.Grammar.{Piece, fixed, blank, token, no_piece, ◌<>◌, pieces, Form, word}
use Rattle.ca_stil_form.specs.Grammar.{and_then, following, before, items_until, for_each, maybe, text_until}
use Rattle.ca_stil_form.specs.Grammar.{text_each, text_maybe}
use Rattle.ca_stil_form.proofs.FormLemmas.{left_true, right_true}
use Rattle.ca_stil_form.proofs.SpellLemmas.{Spells, spells_both, spells_nothing, place_after, ended_in}
use Rattle.ca_stil_form.proofs.SpellLemmas.{whole_spells, fixed_spells, IsWord, Stops, word_spells}

-- the piece's text spells its tokens
pub record IsPiece (piece : Piece) : Type 0 where
  pub spells : Spells piece.text piece.tokens

-- the text of each value spells its tokens
pub record IsSpelled {Value : Type 0} (form : Form Value) : Type 0 where
  pub spells : (value : Value) → form.allowed value ≡ true → Spells (form.text value) (form.written value)

pub fixed_piece : (text : List ℕ) → place_after Between text ≡ Between → IsPiece (fixed text)
fixed_piece text is = record { spells = fixed_spells text is }

pub blank_piece : (text : List ℕ) → place_after Between text ≡ Between → ended_in Between text ≡ [] → IsPiece (blank text)
blank_piece text is none = record { spells = whole_spells text [] is none }

pub token_piece : (text : Token) → Spells text (text ∷ []) → IsPiece (token text)
token_piece text spells = record { spells = spells }

pub nothing_piece : IsPiece no_piece
nothing_piece = record { spells = spells_nothing }

pub both_pieces : (one other : Piece) → IsPiece one → IsPiece other → IsPiece (one <> other)
both_pieces one other first second = record { spells = spells_both one.text other.text one.tokens other.tokens first.spells second.spells }

pub each_piece : {Part : Type 0} (piece : Part → Piece) (P : Part → Type 0) → ((part : Part) → P part → IsPiece (piece part)) → (parts : List Part)
    → AllByRecursion P parts → IsPiece (pieces piece parts)
unfolding pieces
each_piece piece P spells [] all = nothing_piece
each_piece piece P spells (part ∷ parts) all = both_pieces (piece part) (pieces piece parts) (spells part all.0) (each_piece piece P spells parts all.1)

pub and_then_spelled : {First Second : Type 0} (first : Form First) (second : First → Form Second)
    → IsSpelled first → ((one : First) → first.allowed one ≡ true → IsSpelled (second one)) → IsSpelled (and_then first second)
and_then_spelled first second one two = record {
  spells = λ both is.
      let one_allowed = left_true (first.allowed both.0) ((second both.0).allowed both.1) is in
      let two_allowed = right_true (first.allowed both.0) ((second both.0).allowed both.1) is in
      spells_both (first.text both.0) ((second both.0).text both.1) (first.written both.0) ((second both.0).written both.1)
      (one.spells both.0 one_allowed) ((two both.0 one_allowed).spells both.1 two_allowed);
}

pub after_spelled : {Value : Type 0} (piece : Piece) (form : Form Value) → IsPiece piece → IsSpelled form → IsSpelled (following piece form)
after_spelled piece form first second = record {
  spells = λ value is. spells_both piece.text (form.text value) piece.tokens (form.written value) first.spells (second.spells value is);
}

pub before_spelled : {Value : Type 0} (form : Form Value) (piece : Piece) → IsSpelled form → IsPiece piece → IsSpelled (before form piece)
before_spelled form piece first second = record {
  spells = λ value is. spells_both (form.text value) piece.text (form.written value) piece.tokens (first.spells value is) second.spells;
}

pub word_spelled : {Value : Type 0} (allowed : Value → Bool) (spelled : Value → Token) (look : Token → Value) (piece : Piece)
    → ((value : Value) → allowed value ≡ true → IsWord (spelled value)) → Stops piece.text → IsPiece piece
    → IsSpelled (before (word allowed spelled look) piece)
word_spelled allowed spelled look piece words stops second = record {
  spells = λ value is. word_spells (spelled value) piece.text piece.tokens (words value is) stops second.spells;
}

pub token_spelled : {Value : Type 0} (allowed : Value → Bool) (spelled : Value → Token) (look : Token → Value)
    → ((value : Value) → allowed value ≡ true → Spells (spelled value) (spelled value ∷ [])) → IsSpelled (word allowed spelled look)
token_spelled allowed spelled look spells = record { spells = spells }

pub items_spelled : {Item : Type 0} (close : Token) (closing : List ℕ) (item : ℕ → Form Item) → Spells closing (close ∷ [])
    → ((number : ℕ) → IsSpelled (item number)) → (number : ℕ) → IsSpelled (items_until close closing item number)
unfolding all_allowed text_until written_until
items_spelled {Item} close closing item closes spelled number = record { spells = λ items is. steps items number is }
  where
    steps : (items : List Item) (number : ℕ) → all_allowed (λ (number : ℕ). (item number).allowed) number items ≡ true
        → Spells (text_until closing (λ (number : ℕ). (item number).text) number items) (written_until close (λ (number : ℕ). (item number).written) number items)
    steps [] number is = closes
    steps (one ∷ items) number is =
        spells_both ((item number).text one) (text_until closing (λ (number : ℕ). (item number).text) (number + 1) items)
        ((item number).written one) (written_until close (λ (number : ℕ). (item number).written) (number + 1) items)
        ((spelled number).spells one (left_true ((item number).allowed one) (all_allowed (λ (number : ℕ). (item number).allowed) (number + 1) items) is))
        (steps items (number + 1) (right_true ((item number).allowed one) (all_allowed (λ (number : ℕ). (item number).allowed) (number + 1) items) is))

pub each_spelled : {Part Item : Type 0} (item : Part → Form Item) (P : Part → Type 0) → ((part : Part) → P part → IsSpelled (item part)) → (parts : List Part)
    → AllByRecursion P parts → IsSpelled (for_each item parts)
unfolding all_each text_each written_each
each_spelled {Part} {Item} item P spelled parts all = record { spells = steps parts all }
  where
    steps : (parts : List Part) → AllByRecursion P parts → (items : List Item) → all_each (λ (part : Part). (item part).allowed) parts items ≡ true
        → Spells (text_each (λ (part : Part). (item part).text) parts items) (written_each (λ (part : Part). (item part).written) parts items)
    steps [] all items is = spells_nothing
    steps (part ∷ parts) all [] is = spells_nothing
    steps (part ∷ parts) all (one ∷ items) is =
        spells_both ((item part).text one) (text_each (λ (part : Part). (item part).text) parts items)
        ((item part).written one) (written_each (λ (part : Part). (item part).written) parts items)
        ((spelled part all.0).spells one (left_true ((item part).allowed one) (all_each (λ (part : Part). (item part).allowed) parts items) is))
        (steps parts all.1 items (right_true ((item part).allowed one) (all_each (λ (part : Part). (item part).allowed) parts items) is))

pub maybe_spelled : {First Second : Type 0} (possible : Bool) (key : Token) (first : Form First) (second : Option First → Form Second)
    → IsSpelled first → IsSpelled (second None) → ((one : First) → first.allowed one ≡ true → IsSpelled (second (Some one)))
    → IsSpelled (maybe possible key first second)
maybe_spelled {First} {Second} possible key first second one none some = record { spells = λ both is. by both.0 both.1 is }
  where
    by : (value : Option First) (two : Second) → allowed_maybe possible first.allowed (λ (value : Option First). (second value).allowed) value two ≡ true
        → Spells (text_maybe first.text (λ (value : Option First). (second value).text) value two) (written_maybe first.written (λ (value : Option First). (second value).written) value two)
    by None two is = none.spells two is
    by (Some value) two is =
        let both = right_true possible (first.allowed value && (second (Some value)).allowed two) is in
        let value_allowed = left_true (first.allowed value) ((second (Some value)).allowed two) both in
        let two_allowed = right_true (first.allowed value) ((second (Some value)).allowed two) both in
        spells_both (first.text value) ((second (Some value)).text two) (first.written value) ((second (Some value)).written two)
        (one.spells value value_allowed) ((some value value_allowed).spells two two_allowed)
