-- What a token is to the grammar, and the name of an identifier.
use Rattle.std.specs.Prelude.{ℕ, ◌+◌, ◌-◌, ◌*◌, ◌==◌, nat_lt, Bool, ◌||◌, if◌then◌else◌, List, [], ◌∷◌, codes}
use Rattle.std.specs.Str.{bytes_eq}
use Rattle.ca_lex.specs.declared.token.TokenKind.{TokenKind}
use Rattle.ca_lex.specs.declared.token.TokenKind.TheVariants as kind
use Rattle.ca_verilog.specs.declared.lexeme.TheConstants.{MOST}
use Rattle.ca_verilog.specs.declared.lexeme.Lexeme.{Lexeme}
use Rattle.ca_verilog.specs.declared.lexeme.Lexeme.TheVariants as lexeme

-- a keyword of the larger language
abbrev pub is_refused : List ℕ → Bool
is_refused word = bytes_eq word (codes "inout") || bytes_eq word (codes "reg") || bytes_eq word (codes "tri")
    || bytes_eq word (codes "supply0") || bytes_eq word (codes "supply1") || bytes_eq word (codes "parameter")
    || bytes_eq word (codes "defparam") || bytes_eq word (codes "always") || bytes_eq word (codes "initial")
    || bytes_eq word (codes "function")

-- what a word without a `\` is: a keyword or a name
unfoldable pub word_of : List ℕ → Lexeme
word_of word = if bytes_eq word (codes "module") then lexeme.Module
    else (if bytes_eq word (codes "endmodule") then lexeme.Endmodule
    else (if bytes_eq word (codes "input") then lexeme.Input
    else (if bytes_eq word (codes "output") then lexeme.Output
    else (if bytes_eq word (codes "wire") then lexeme.Wire
    else (if bytes_eq word (codes "assign") then lexeme.Assign
    else (if is_refused word then lexeme.Refused else lexeme.Name))))))

-- the number of digits after those of this value; one whose first digits pass the greatest number is larger
abbrev pub number_from : ℕ → List ℕ → Lexeme
number_from value [] = lexeme.Number value
number_from value (digit ∷ more) =
    if nat_lt MOST (value * 10 + (digit - 48)) then lexeme.Large
    else number_from (value * 10 + (digit - 48)) more

-- a constant of one bit
abbrev pub constant_of : List ℕ → Lexeme
constant_of text = lexeme.Constant (bytes_eq text (codes "1'b1") || bytes_eq text (codes "1'B1"))

-- the sign of a byte
abbrev pub sign_at : ℕ → Lexeme
sign_at byte = if byte == 40 then lexeme.Open
    else (if byte == 41 then lexeme.Close
    else (if byte == 91 then lexeme.OpenBracket
    else (if byte == 93 then lexeme.CloseBracket
    else (if byte == 44 then lexeme.Comma
    else (if byte == 46 then lexeme.Dot
    else (if byte == 58 then lexeme.Colon
    else (if byte == 59 then lexeme.Semicolon else lexeme.Equals)))))))

-- the sign of a token, which has one byte
unfoldable pub sign_of : List ℕ → Lexeme
sign_of [] = lexeme.Equals
sign_of (byte ∷ more) = sign_at byte

-- what a token of this kind and text is to the grammar
unfoldable pub lexeme_of : TokenKind → List ℕ → Lexeme
lexeme_of kind.Name text = word_of text
lexeme_of kind.Escaped text = lexeme.Name
lexeme_of kind.Number text = number_from 0 text
lexeme_of kind.Constant text = constant_of text
lexeme_of kind.Sign text = sign_of text

-- the bytes after the first
abbrev pub after_first : List ℕ → List ℕ
after_first [] = []
after_first (byte ∷ more) = more

-- the name of an identifier: an escaped one is without its `\`
abbrev pub name_of : TokenKind → List ℕ → List ℕ
name_of kind.Escaped text = after_first text
name_of _ text = text
