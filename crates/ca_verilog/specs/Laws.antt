-- The first fault of a text, in a reader's words.
use Rattle.std.specs.Prelude.{ℕ, ◌-◌, ◌≡◌, ◌⊎◌, false, List, ◌∷◌, ◌++◌, length, Some, None, Ok, Err, ⊤}
use Rattle.ca_lex.specs.declared.token.Token.{Token}
use Rattle.ca_token.specs.declared.fault.Flaw.{Flaw}
use Rattle.ca_token.specs.Scan.{scan_of, line_at}
use Rattle.ca_verilog.specs.declared.fault.VerilogKind.{VerilogKind}
use Rattle.ca_verilog.specs.declared.fault.VerilogKind.TheVariants.{Syntax, Undeclared, DoubleName, BadRange}
use Rattle.ca_verilog.specs.Reading.{Reading, nothing}
use Rattle.ca_verilog.specs.Text.{token_step, tokens_from, is_end}
use Rattle.ca_verilog.specs.VerilogFault.{kind_of}

-- the tokens before `here` are read without a fault, and `here`, which is on this line, breaks a rule of this
-- kind
pub record BreaksRule (text : List ℕ) (line : ℕ) (kind : VerilogKind) : Type 0 where
  pub before : List Token
  pub here : Token
  pub after : List Token
  pub so_far : Reading
  pub whole : (scan_of text).tokens ≡ before ++ here ∷ after
  pub number : line_at here.start text ≡ line
  pub read : tokens_from text nothing before ≡ Ok so_far
  pub broken : token_step text here so_far ≡ Err kind

-- all tokens before a fault that no token begins with are read, and it is on this line
pub record IsFlawed (text : List ℕ) (line : ℕ) (kind : VerilogKind) : Type 0 where
  pub so_far : Reading
  pub flaw : Flaw
  pub read : tokens_from text nothing (scan_of text).tokens ≡ Ok so_far
  pub found : (scan_of text).flaw ≡ Some flaw
  pub number : line_at flaw.place text ≡ line
  pub same_kind : kind_of flaw.kind ≡ kind

-- all tokens are read, and the module isn't at its end; the text's last byte is on this line
pub record EndsEarly (text : List ℕ) (line : ℕ) (kind : VerilogKind) : Type 0 where
  pub so_far : Reading
  pub read : tokens_from text nothing (scan_of text).tokens ≡ Ok so_far
  pub whole : (scan_of text).flaw ≡ None
  pub early : is_end so_far.place ≡ false
  pub number : line_at (length text - 1) text ≡ line
  pub same_kind : kind ≡ Syntax

-- the first fault of a text: a token that can't follow those before it, a fault that no token begins with
-- after tokens that were read, or an end that comes too early
abbrev pub IsFirstFaulty : List ℕ → ℕ → VerilogKind → Type 0
IsFirstFaulty text line kind =
    BreaksRule text line kind ⊎ (IsFlawed text line kind ⊎ EndsEarly text line kind)

-- a rule on names and ranges, and not on the order of tokens
abbrev pub IsOfNames : VerilogKind → Type 0
IsOfNames Undeclared = ⊤
IsOfNames DoubleName = ⊤
IsOfNames BadRange = ⊤
IsOfNames _ = ⊥
