-- The names of identifiers: of which bytes they are.
use Rattle.std.specs.Prelude.{ℕ, ◌==◌, ◌≡◌, Bool, true, not, ◌&&◌, List, length, drop, ⊤}
use Rattle.std.specs.List.{All, list_all}
use Rattle.ca_lex.specs.declared.token.Token.{Token}
use Rattle.ca_lex.specs.declared.token.TokenKind.{TokenKind}
use Rattle.ca_lex.specs.declared.token.TokenKind.TheVariants.{Name, Escaped, Number, Constant, Sign}
use Rattle.ca_token.specs.Bytes.{is_text}
use Rattle.ca_token.specs.Scan.{scan_of, text_of}

-- a byte from 33 to 126 that isn't `"`
abbrev pub is_unquoted : ℕ → Bool
is_unquoted byte = is_text byte && not (byte == 34)

-- one or more such bytes
abbrev pub is_plain_name : List ℕ → Bool
is_plain_name name = not (length name == 0) && list_all is_unquoted name

-- an identifier of this kind and text has such a name, which follows the `\` of an escaped one
abbrev pub HasPlainName : TokenKind → List ℕ → Type 0
HasPlainName Name text = is_plain_name text ≡ true
HasPlainName Escaped text = is_plain_name (drop 1 text) ≡ true
HasPlainName Number text = ⊤
HasPlainName Constant text = ⊤
HasPlainName Sign text = ⊤

-- each identifier of a text has such a name
abbrev pub NamesArePlain : Type 0
NamesArePlain =
    (text : List ℕ) → All (λ (token : Token). HasPlainName token.kind (text_of token text))
    (scan_of text).tokens
