-- Numbers by their digits.
use Rattle.std.proofs.Common.{◌≡◌, ℕ, ◌<◌, ◌≤◌, List, [], ◌∷◌, Bool, true, false, cond}
use Rattle.std.proofs.Common.{arith, refl, sym, ap}
use Rattle.std.specs.Prelude.{nat_lt, fold}
use Rattle.std.proofs.lemmas.Bool.{lt-ltb, le-ltb, ltb-true, ltb-false}
use Rattle.ca_lex.specs.Length.{with_digit}
use Rattle.ca_verilog.specs.declared.lexeme.TheConstants.{MOST}
use Rattle.ca_verilog.specs.declared.lexeme.Lexeme.{Lexeme}
use Rattle.ca_verilog.specs.declared.lexeme.Lexeme.TheVariants.{Number, Large}
use Rattle.ca_verilog.specs.Lexeme.{number_from}

-- more digits make no smaller number
digits_grow : (value : ℕ) (digits : List ℕ) → value ≤ fold with_digit value digits
digits_grow value [] = omega arith
digits_grow value (digit ∷ digits) = omega (arith, digits_grow (with_digit value digit) digits)

-- a number with its digits, if it isn't too large
abbrev reported : ℕ → Lexeme
reported value = cond (nat_lt MOST value) Large (Number value)

pub number_reported : (value : ℕ) (digits : List ℕ) → value ≤ MOST → number_from value digits ≡ reported (fold with_digit value digits)
number_reported value [] few = ap (λ (large : Bool). cond large Large (Number value)) (sym (le-ltb MOST value few))
number_reported value (digit ∷ digits) few =
    by (nat_lt MOST (with_digit value digit)) refl (number_reported (with_digit value digit) digits)
  where
    by : (large : Bool) → nat_lt MOST (with_digit value digit) ≡ large
        → (with_digit value digit ≤ MOST → number_from (with_digit value digit) digits ≡ reported (fold with_digit (with_digit value digit) digits))
        → cond large Large (number_from (with_digit value digit) digits) ≡ reported (fold with_digit (with_digit value digit) digits)
    by true is later =
        let passed : MOST < with_digit value digit = ltb-true MOST (with_digit value digit) is in
        let over : MOST < fold with_digit (with_digit value digit) digits = omega (arith, passed, digits_grow (with_digit value digit) digits) in
        ap (λ (large : Bool). cond large Large (Number (fold with_digit (with_digit value digit) digits))) (sym (lt-ltb MOST _ over))
    by false is later = later (ltb-false MOST (with_digit value digit) is)
