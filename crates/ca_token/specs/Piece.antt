-- What the text of a gate netlist begins with: white space, something that is skipped, a token, or a fault.
use Rattle.std.specs.Prelude.{ℕ, ◌+◌, ◌-◌, ◌==◌, Bool, false, not, ◌&&◌, ◌||◌}
use Rattle.std.specs.Prelude.{if◌then◌else◌, List, [], ◌∷◌, length, take, drop, codes}
use Rattle.std.specs.List.{list_all, list_any}
use Rattle.std.specs.Str.{bytes_eq}
use Rattle.ca_lex.specs.declared.token.TokenKind.TheVariants.{Name, Escaped, Number, Constant, Sign}
use Rattle.ca_token.specs.declared.fault.LexKind.TheVariants.{Syntax, Unsupported, NotText}
use Rattle.ca_token.specs.declared.piece.Piece.{Piece}
use Rattle.ca_token.specs.declared.piece.Piece.TheVariants.{Blank, Skipped, Found, Broken}
use Rattle.ca_token.specs.Bytes.{is_white, is_text, is_plain, is_letter, is_digit, begins_name, is_sign}
use Rattle.ca_lex.specs.Physical.{line_len}
use Rattle.ca_token.specs.Bytes.{begins_with, name_len, digits_len, text_len, constant_len}

-- the text begins with a `*` and this sign, which end a comment or an attribute
abbrev pub closes : ℕ → List ℕ → Bool
closes sign [] = false
closes sign (byte ∷ more) = byte == 42 && begins_with sign more

-- a comment up to `*/`, of which `len` bytes are before this text; at the text's end it is reported at its
-- last byte
abbrev pub comment_from : ℕ → List ℕ → Piece
comment_from len [] = Broken (len - 1) Syntax
comment_from len (byte ∷ more) =
    if closes 47 (byte ∷ more) then Skipped (len + 2) else comment_from (len + 1) more

-- an attribute up to `*)`, of which `len` bytes are before this text; its bytes are judged
abbrev pub attribute_from : ℕ → List ℕ → Piece
attribute_from len [] = Broken (len - 1) Syntax
attribute_from len (byte ∷ more) =
    if closes 41 (byte ∷ more) then Skipped (len + 2)
    else (if is_plain byte then attribute_from (len + 1) more else Broken len NotText)

-- what a `/` begins, by the bytes after it: a comment, or nothing that is known
unfoldable pub slash_piece : List ℕ → Piece
slash_piece [] = Broken 0 Syntax
slash_piece (byte ∷ more) =
    if byte == 47 then Skipped (2 + line_len more)
    else (if byte == 42 then comment_from 2 more else Broken 0 Syntax)

-- what a `(` begins, by the bytes after it: an attribute, unless `*)` follows, or a sign
unfoldable pub open_piece : List ℕ → Piece
open_piece [] = Found Sign 1
open_piece (byte ∷ more) =
    if byte == 42 && not (begins_with 41 more) then attribute_from 2 more else Found Sign 1

-- a directive whose line is skipped
abbrev pub is_directive : List ℕ → Bool
is_directive word = bytes_eq word (codes "timescale") || bytes_eq word (codes "celldefine")
    || bytes_eq word (codes "endcelldefine") || bytes_eq word (codes "default_nettype")
    || bytes_eq word (codes "resetall")

-- the rest of the line of a directive, whose bytes are judged
abbrev pub directive_line : List ℕ → Piece
directive_line line = if list_all is_plain line then Skipped (1 + length line) else Broken 0 NotText

-- what a backquote begins, where only white space is before it on its line or not, by the bytes after it
unfoldable pub directive_piece : Bool → List ℕ → Piece
directive_piece begins_line more =
    if begins_line && is_directive (take (name_len more) more) then directive_line (take (line_len more) more)
    else Broken 0 Unsupported

-- the name has a `"`
abbrev pub has_quote : List ℕ → Bool
has_quote name = list_any (λ byte. byte == 34) name

-- a name after a `\`, with what follows it: white space ends it
abbrev pub escaped_before : List ℕ → List ℕ → Piece
escaped_before name [] = if has_quote name then Broken 0 Unsupported else Broken 0 Syntax
escaped_before name (next ∷ more) =
    if not (is_white next) then Broken 0 NotText
    else (if has_quote name then Broken 0 Unsupported
    else (if length name == 0 then Broken 0 Syntax else Found Escaped (1 + length name)))

-- what a `\` begins, by the bytes after it
unfoldable pub escaped_piece : List ℕ → Piece
escaped_piece more = escaped_before (take (text_len more) more) (drop (text_len more) more)

-- the value of a constant of one bit, after its `'`
abbrev pub is_bit : List ℕ → Bool
is_bit value = bytes_eq value (codes "b0") || bytes_eq value (codes "b1") || bytes_eq value (codes "B0")
    || bytes_eq value (codes "B1")

-- a constant of these digits and of this value, which a `'` parts: only those of one bit are supported
unfoldable pub constant_piece : List ℕ → List ℕ → Piece
constant_piece digits value =
    if bytes_eq digits (codes "1") && is_bit value then Found Constant (length digits + 1 + length value)
    else Broken 0 Unsupported

-- digits, with what follows them: a number, or a constant where a `'` follows
abbrev pub number_before : List ℕ → List ℕ → Piece
number_before digits [] = Found Number (length digits)
number_before digits (next ∷ more) =
    if next == 39 then constant_piece digits (take (constant_len more) more) else Found Number (length digits)

-- what a digit begins, which is the text's first byte
unfoldable pub number_piece : List ℕ → Piece
number_piece text = number_before (take (digits_len text) text) (drop (digits_len text) text)

-- what a `'` begins, by the bytes after it: a constant without a width, or nothing that is known
unfoldable pub quote_piece : List ℕ → Piece
quote_piece [] = Broken 0 Syntax
quote_piece (byte ∷ more) = if is_letter byte || is_digit byte then Broken 0 Unsupported else Broken 0 Syntax

-- what any other byte is: a sign, no byte of a text, `#` and `{` of a larger language, or nothing that is
-- known
abbrev pub sign_piece : ℕ → Piece
sign_piece byte =
    if is_sign byte then Found Sign 1
    else (if not (is_text byte) then Broken 0 NotText
    else (if byte == 35 || byte == 123 then Broken 0 Unsupported else Broken 0 Syntax))

-- what a text begins with, where only white space is before it on its line or not
unfoldable pub piece_of : Bool → List ℕ → Piece
piece_of begins_line [] = Blank
piece_of begins_line (byte ∷ more) =
    if is_white byte then Blank
    else (if byte == 47 then slash_piece more
    else (if byte == 40 then open_piece more
    else (if byte == 96 then directive_piece begins_line more
    else (if byte == 92 then escaped_piece more
    else (if byte == 39 then quote_piece more
    else (if begins_name byte then Found Name (name_len (byte ∷ more))
    else (if is_digit byte then number_piece (byte ∷ more) else sign_piece byte)))))))
