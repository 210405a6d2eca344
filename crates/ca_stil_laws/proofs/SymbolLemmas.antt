-- The identifiers among the symbols of a gate netlist have names of the STIL form.
use Rattle.std.proofs.Common.{◌≡◌, ℕ, suc, ◌+◌, ◌-◌, ◌*◌, ◌==◌, ◌<◌, Bool, true, false, cond, List, [], ◌∷◌, ◌∙◌, length}
use Rattle.std.proofs.Common.{drop, map, ap, arith, refl}
use Rattle.std.specs.Prelude.{⊤}
use Rattle.std.specs.List.{All, AllByRecursion}
use Rattle.ca_lex.specs.declared.token.Token.{Token}
use Rattle.ca_lex.specs.declared.token.TokenKind.{TokenKind}
use Rattle.ca_lex.specs.declared.token.TokenKind.TheVariants as kind
use Rattle.ca_token.specs.Scan.{scan_of, text_of}
use Rattle.ca_token.specs.Names.{HasPlainName, NamesArePlain}
use Rattle.ca_verilog.specs.declared.lexeme.Lexeme.{Lexeme}
use Rattle.ca_verilog.specs.declared.lexeme.Lexeme.TheVariants as lexeme
use Rattle.ca_verilog.specs.Lexeme.{number_from, constant_of, sign_at, sign_of, word_of, lexeme_of, after_first}
use Rattle.ca_verilog.specs.Lexeme.{name_of}
use Rattle.ca_syntax.specs.Symbols.{Symbol, symbol_of, symbol_at}
use Rattle.ca_stil_form.specs.Frame.{is_name}

-- what holds of each holds by recursion
by_recursion : {X : Type 0} (P : X → Type 0) (xs : List X) → All P xs → AllByRecursion P xs
by_recursion P [] all = tt
by_recursion P (x ∷ xs) all =
    (all 0 x (omega arith), by_recursion P xs (λ k other within. all (suc k) other (omega (arith, within))))

-- a choice has what both its ways have
ways : {T : Type 0} (P : T → Type 0) (test : Bool) (one other : T) → (test ≡ true → P one) → (test ≡ false → P other) → P (cond test one other)
ways P true one other first second = first refl
ways P false one other first second = second refl

after_is : (text : List ℕ) → after_first text ≡ drop 1 text
after_is [] = refl
after_is (byte ∷ more) = refl

-- the token's name is plain
abbrev HasNameIn : List ℕ → Token → Type 0
HasNameIn text token = HasPlainName token.kind (text_of token text)

-- the same of symbols
abbrev pub IsNamedSymbol : Symbol → Type 0
IsNamedSymbol (Symbol.identifier name) = is_name name ≡ true
IsNamedSymbol (Symbol.other given) = ⊤

abbrev IsOther : Lexeme → Type 0
IsOther lexeme.Name = ⊥
IsOther given = ⊤

any_symbol : (given : Lexeme) (name : List ℕ) → is_name name ≡ true → IsNamedSymbol (symbol_of given name)
any_symbol lexeme.Name name is = is
any_symbol given name is = tt

other_symbol : (given : Lexeme) (name : List ℕ) → IsOther given → IsNamedSymbol (symbol_of given name)
other_symbol lexeme.Name name other = absurd other
other_symbol given name other = tt

number_other : (value : ℕ) (digits : List ℕ) → IsOther (number_from value digits)
number_other value [] = tt
number_other value (digit ∷ digits) =
    ways IsOther _ lexeme.Large (number_from (value * 10 + (digit - 48)) digits) (λ yes. tt)
    (λ no. number_other (value * 10 + (digit - 48)) digits)

sign_other : (text : List ℕ) → IsOther (sign_of text)
unfolding sign_of
sign_other [] = tt
sign_other (byte ∷ more) =
    ways IsOther (byte == 40) lexeme.Open _ (λ yes. tt) (λ no.
    ways IsOther (byte == 41) lexeme.Close _ (λ yes. tt) (λ no.
    ways IsOther (byte == 91) lexeme.OpenBracket _ (λ yes. tt) (λ no.
    ways IsOther (byte == 93) lexeme.CloseBracket _ (λ yes. tt) (λ no.
    ways IsOther (byte == 44) lexeme.Comma _ (λ yes. tt) (λ no.
    ways IsOther (byte == 46) lexeme.Dot _ (λ yes. tt) (λ no.
    ways IsOther (byte == 58) lexeme.Colon _ (λ yes. tt) (λ no.
    ways IsOther (byte == 59) lexeme.Semicolon lexeme.Equals (λ yes. tt) (λ no. tt))))))))

symbol_named : (found : TokenKind) (text : List ℕ) → HasPlainName found text → IsNamedSymbol (symbol_of (lexeme_of found text) (name_of found text))
unfolding lexeme_of
symbol_named kind.Name text named = any_symbol (word_of text) text named
symbol_named kind.Escaped text named = ap is_name (after_is text) ∙ named
symbol_named kind.Number text named = other_symbol (number_from 0 text) text (number_other 0 text)
symbol_named kind.Constant text named = tt
symbol_named kind.Sign text named = other_symbol (sign_of text) text (sign_other text)

symbols_from : (text : List ℕ) (tokens : List Token) → AllByRecursion (HasNameIn text) tokens
    → AllByRecursion IsNamedSymbol (map (symbol_at text) tokens)
symbols_from text [] named = tt
symbols_from text (token ∷ tokens) named =
    (symbol_named token.kind (text_of token text) named.0, symbols_from text tokens named.1)

-- each identifier among the symbols of a text has a name of the form
pub symbols_named : NamesArePlain → (text : List ℕ) → AllByRecursion IsNamedSymbol (map (symbol_at text) (scan_of text).tokens)
symbols_named plain text = symbols_from text (scan_of text).tokens (by_recursion (HasNameIn text) (scan_of text).tokens (plain text))
