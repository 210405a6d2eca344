-- Forms put together: each says which values it allows, how a value's tokens and its text are written, and
-- how tokens are read.
use Rattle.std.specs.Prelude.{ℕ, ◌+◌, Bool, ◌&&◌, List, [], ◌∷◌, ◌++◌, Option, Some, None, if◌then◌else◌}
use Rattle.std.specs.Str.{bytes_eq}
use Rattle.ca_stil_form.specs.Tokens.{tokens_of}
use Rattle.ca_stil_form.specs.Form.{Token, Outcome, read_one, read_fixed, read_then, mapped}
use Rattle.ca_stil_form.specs.Form.{read_items, written_until, all_allowed, read_maybe, written_maybe}
use Rattle.ca_stil_form.specs.Form.{allowed_maybe, read_each, written_each, all_each}

-- a piece of text, and its tokens
pub record Piece : Type 0 where
  pub text : List ℕ
  pub tokens : List Token

-- a text that is fixed
abbrev pub fixed : List ℕ → Piece
fixed text = record { text = text; tokens = tokens_of text }

-- blanks
abbrev pub blank : List ℕ → Piece
blank text = record { text = text; tokens = [] }

-- a text that is one token
abbrev pub token : Token → Piece
token text = record { text = text; tokens = text ∷ [] }

-- nothing
abbrev pub no_piece : Piece
no_piece = record { text = []; tokens = [] }

infixr 6 ◌<>◌
-- one piece, and then another
abbrev pub ◌<>◌ : Piece → Piece → Piece
one <> other = record { text = one.text ++ other.text; tokens = one.tokens ++ other.tokens }

-- a piece for each of these
unfoldable pub pieces : {Part : Type 0} → (Part → Piece) → List Part → Piece
pieces piece [] = no_piece
pieces piece (part ∷ parts) = piece part <> pieces piece parts

-- a form of values
pub record Form (Value : Type 0) : Type 0 where
  pub allowed : Value → Bool
  pub text : Value → List ℕ
  pub written : Value → List Token
  pub read : List Token → Outcome Value

-- the value that a token spells: the one that a first look gives, if it is allowed and spelled so
abbrev pub spelled_value : {Value : Type 0} → (Value → Bool) → (Value → Token) → (Token → Value) → Token
    → Option Value
spelled_value allowed spelled look token =
    if allowed (look token) && bytes_eq (spelled (look token)) token then Some (look token) else None

-- one token, which spells a value
abbrev pub word : {Value : Type 0} → (Value → Bool) → (Value → Token) → (Token → Value) → Form Value
word allowed spelled look = record {
  allowed = allowed;
  text = spelled;
  written = λ value. spelled value ∷ [];
  read = read_one (spelled_value allowed spelled look);
}

-- one form after another, on whose value it may depend
abbrev pub and_then : {First Second : Type 0} → Form First → (First → Form Second) → Form (First × Second)
and_then {First} {Second} first second = record {
  allowed = λ both. first.allowed both.0 && (second both.0).allowed both.1;
  text = λ both. first.text both.0 ++ (second both.0).text both.1;
  written = λ both. first.written both.0 ++ (second both.0).written both.1;
  read = read_then first.read (λ one. (second one).read);
}

-- a form after a piece
abbrev pub following : {Value : Type 0} → Piece → Form Value → Form Value
following piece form = record {
  allowed = form.allowed;
  text = λ value. piece.text ++ form.text value;
  written = λ value. piece.tokens ++ form.written value;
  read = λ given. mapped (λ both. both.1) (read_then (read_fixed piece.tokens) (λ done. form.read) given);
}

-- a form before a piece
abbrev pub before : {Value : Type 0} → Form Value → Piece → Form Value
before form piece = record {
  allowed = form.allowed;
  text = λ value. form.text value ++ piece.text;
  written = λ value. form.written value ++ piece.tokens;
  read = λ given. mapped (λ both. both.0) (read_then form.read (λ value. read_fixed piece.tokens) given);
}

-- the texts of items, one after another, and of what closes them; and of the items of parts
unfoldable pub text_until : {Item : Type 0} → List ℕ → (ℕ → Item → List ℕ) → ℕ → List Item → List ℕ
text_until close text number [] = close
text_until close text number (item ∷ items) = text number item ++ text_until close text (number + 1) items

unfoldable pub text_each : {Part Item : Type 0} → (Part → Item → List ℕ) → List Part → List Item → List ℕ
text_each text [] items = []
text_each text (part ∷ parts) [] = []
text_each text (part ∷ parts) (item ∷ items) = text part item ++ text_each text parts items

abbrev pub text_maybe : {First Second : Type 0} → (First → List ℕ) → (Option First → Second → List ℕ)
    → Option First → Second → List ℕ
text_maybe text_first text_second None second = text_second None second
text_maybe text_first text_second (Some first) second = text_first first ++ text_second (Some first) second

-- items up to a closing token, whose text is `closing`; the first of them has this number
abbrev pub items_until : {Item : Type 0} → Token → List ℕ → (ℕ → Form Item) → ℕ → Form (List Item)
items_until close closing item number = record {
  allowed = all_allowed (λ number. (item number).allowed) number;
  text = text_until closing (λ number. (item number).text) number;
  written = written_until close (λ number. (item number).written) number;
  read = read_items close (λ number. (item number).read) number;
}

-- a form for each of these parts
abbrev pub for_each : {Part Item : Type 0} → (Part → Form Item) → List Part → Form (List Item)
for_each item parts = record {
  allowed = all_each (λ part. (item part).allowed) parts;
  text = text_each (λ part. (item part).text) parts;
  written = written_each (λ part. (item part).written) parts;
  read = read_each (λ part. (item part).read) parts;
}

-- a form that may be left out, known by its first token, where it is possible at all, and another one after
-- it
abbrev pub maybe : {First Second : Type 0} → Bool → Token → Form First → (Option First → Form Second)
    → Form (Option First × Second)
maybe possible key first second = record {
  allowed = λ both. allowed_maybe possible first.allowed (λ one. (second one).allowed) both.0 both.1;
  text = λ both. text_maybe first.text (λ one. (second one).text) both.0 both.1;
  written = λ both. written_maybe first.written (λ one. (second one).written) both.0 both.1;
  read = read_maybe possible key first.read (λ one. (second one).read);
}
