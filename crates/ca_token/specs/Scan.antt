-- The tokens of a text up to its first fault.
use Rattle.std.specs.Prelude.{ℕ, zero, suc, ◌+◌, ◌-◌, ◌<◌, ◌≤◌, ◌==◌, ◌≡◌, eqb, Bool, true, false, ◌||◌}
use Rattle.std.specs.Prelude.{if◌then◌else◌, List, [], ◌∷◌, length, take, drop, filter, Option, Some, None}
use Rattle.std.specs.Prelude.{Result, Ok, Err}
use Rattle.ca_lex.specs.declared.token.Token.{Token}
use Rattle.ca_lex.specs.declared.token.TokenKind.{TokenKind}
use Rattle.ca_token.specs.declared.fault.LexKind.{LexKind}
use Rattle.ca_token.specs.declared.fault.Flaw.{Flaw}
use Rattle.ca_token.specs.declared.piece.Piece.{Piece}
use Rattle.ca_token.specs.declared.piece.Piece.TheVariants.{Blank, Skipped, Found, Broken}
use Rattle.ca_token.specs.Piece.{piece_of}

-- the tokens before the first fault, and the fault, if there is one
pub record Scan : Type 0 where
  pub tokens : List Token
  pub flaw : Option Flaw

-- nothing is left
abbrev pub nothing : Scan
nothing = record { tokens = []; flaw = None }

-- a fault of the token that begins at this place, at the byte that is `shift` after it
abbrev pub broken_at : ℕ → ℕ → LexKind → Scan
broken_at place shift kind = record {
  tokens = [];
  flaw = Some (record { at = place; place = place + shift; kind = kind });
}

-- a token before those of the rest
abbrev pub with_token : Token → Scan → Scan
with_token token rest = record { tokens = token ∷ rest.tokens; flaw = rest.flaw }

-- the token of `len` bytes that begins at this place
abbrev pub token_at : ℕ → TokenKind → ℕ → Token
token_at place kind len = record { kind = kind; start = place; end = place + len }

-- the tokens of a text that begins at this place of the whole, without its first `passed` bytes, which belong
-- to the piece before; the Bool says whether only white space is before it on its line
unfoldable pub scan_from : Bool → ℕ → ℕ → List ℕ → Scan
scan_from begins_line passed place [] = nothing
scan_from begins_line (suc passed) place (byte ∷ more) = scan_from begins_line passed (place + 1) more
scan_from begins_line zero place (byte ∷ more) = elim (piece_of begins_line (byte ∷ more)) [
  | Blank ↦ scan_from (begins_line || byte == 10) 0 (place + 1) more
  | Skipped len ↦ scan_from false (len - 1) (place + 1) more
  | Found kind len ↦ with_token (token_at place kind len) (scan_from false (len - 1) (place + 1) more)
  | Broken shift kind ↦ broken_at place shift kind
]

-- the tokens of a text after this place, which is 0 or the end of a token
abbrev pub tokens_after : ℕ → List ℕ → Scan
tokens_after place text = scan_from (place == 0) 0 place (drop place text)

-- the tokens of a text
abbrev pub scan_of : List ℕ → Scan
scan_of text = tokens_after 0 text

-- the line of the byte at this place, counted from 1; a line feed belongs to the line that it ends
abbrev pub line_at : ℕ → List ℕ → ℕ
line_at place text = 1 + length (filter (λ byte. byte == 10) (take place text))

-- the bytes of a token
abbrev pub text_of : Token → List ℕ → List ℕ
text_of token text = take (token.end - token.start) (drop token.start text)
