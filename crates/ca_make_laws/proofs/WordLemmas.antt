-- The words of a generated chip are names.
use Rattle.std.proofs.Common.{◌≡◌, ℕ, ◌<◌, ◌≤◌, ◌^◌, ◌==◌, Bool, true, false, ◌||◌, ◌&&◌, List, [], ◌∷◌}
use Rattle.std.proofs.Common.{length, refl, ap, ◌∙◌, arith, codes, decimal}
use Rattle.std.specs.List.{list_all, AllByRecursion}
use Rattle.std.proofs.lemmas.Bool.Decides.{nat_tests}
use Rattle.ca_token.specs.Bytes.{is_digit, begins_name, is_name_byte}
use Rattle.ca_token.specs.Piece.{piece_of, open_piece}
use Rattle.ca_token.specs.Scan.{scan_from}
use Rattle.ca_spice.proofs.SizeLemmas.{decimal_spells}
use Rattle.ca_verilog.specs.declared.lexeme.Lexeme.TheVariants as lexeme
use Rattle.ca_verilog.specs.Lexeme.{word_of}
use Rattle.ca_make.specs.NetlistText.{numbered}
use Rattle.ca_make_laws.proofs.SpellLemmas.{IsWord}

or_true : (a b : Bool) → (a || true || b) ≡ true
or_true true b = refl
or_true false b = refl

-- digits may be in a name
digits_named : (digits : List ℕ) → AllByRecursion (λ byte. is_digit byte ≡ true) digits → list_all is_name_byte digits ≡ true
digits_named [] all = refl
digits_named (byte ∷ digits) all =
    ap (λ (d : Bool). (begins_name byte || d || byte == 36) && list_all is_name_byte digits) all.0
    ∙ ap (λ (d : Bool). d && list_all is_name_byte digits) (or_true (begins_name byte) (byte == 36))
    ∙ digits_named digits all.1

named : (number : ℕ) → number < 10 ^ 64 → list_all is_name_byte (decimal number) ≡ true
named number below = digits_named (decimal number) (decimal_spells number below).all

-- a number of a chip
abbrev pub IsSmall : ℕ → Type 0
IsSmall number = number < 10 ^ 64

pub i_word : (k : ℕ) → IsSmall k → IsWord (numbered (codes "i") k)
unfolding scan_from piece_of open_piece
i_word k below = record {
  first = 105;
  more = decimal k;
  is = refl;
  begins = λ rest b place. refl;
  bytes = named k below;
  opened = λ rest b place. refl;
}

pub o_word : (k : ℕ) → IsSmall k → IsWord (numbered (codes "o") k)
unfolding scan_from piece_of open_piece
o_word k below = record {
  first = 111;
  more = decimal k;
  is = refl;
  begins = λ rest b place. refl;
  bytes = named k below;
  opened = λ rest b place. refl;
}

pub u_word : (k : ℕ) → IsSmall k → IsWord (numbered (codes "u") k)
unfolding scan_from piece_of open_piece
u_word k below = record {
  first = 117;
  more = decimal k;
  is = refl;
  begins = λ rest b place. refl;
  bytes = named k below;
  opened = λ rest b place. refl;
}

pub w_word : (k : ℕ) → IsSmall k → IsWord (numbered (codes "w") k)
unfolding scan_from piece_of open_piece
w_word k below = record {
  first = 119;
  more = decimal k;
  is = refl;
  begins = λ rest b place. refl;
  bytes = named k below;
  opened = λ rest b place. refl;
}

-- a digit isn't a letter of a keyword
not_n : (digit : ℕ) → is_digit digit ≡ true → (digit == 110) ≡ false
not_n digit is = grind (arith, nat_tests)

not_u : (digit : ℕ) → is_digit digit ≡ true → (digit == 117) ≡ false
not_u digit is = grind (arith, nat_tests)

not_i : (digit : ℕ) → is_digit digit ≡ true → (digit == 105) ≡ false
not_i digit is = grind (arith, nat_tests)

-- no keyword is a letter and digits
i_by : (digits : List ℕ) → 1 ≤ length digits → AllByRecursion (λ byte. is_digit byte ≡ true) digits
    → word_of (105 ∷ digits) ≡ lexeme.Name
unfolding word_of
i_by [] some all = absurd (omega (arith, some))
i_by (digit ∷ digits) some all = rw (not_n digit all.0) refl

o_by : (digits : List ℕ) → 1 ≤ length digits → AllByRecursion (λ byte. is_digit byte ≡ true) digits
    → word_of (111 ∷ digits) ≡ lexeme.Name
unfolding word_of
o_by [] some all = absurd (omega (arith, some))
o_by (digit ∷ digits) some all = rw (not_u digit all.0) refl

w_by : (digits : List ℕ) → 1 ≤ length digits → AllByRecursion (λ byte. is_digit byte ≡ true) digits
    → word_of (119 ∷ digits) ≡ lexeme.Name
unfolding word_of
w_by [] some all = absurd (omega (arith, some))
w_by (digit ∷ digits) some all = rw (not_i digit all.0) refl

pub i_name : (k : ℕ) → IsSmall k → word_of (numbered (codes "i") k) ≡ lexeme.Name
i_name k below = let spells = decimal_spells k below in i_by (decimal k) spells.some spells.all

pub o_name : (k : ℕ) → IsSmall k → word_of (numbered (codes "o") k) ≡ lexeme.Name
o_name k below = let spells = decimal_spells k below in o_by (decimal k) spells.some spells.all

pub w_name : (k : ℕ) → IsSmall k → word_of (numbered (codes "w") k) ≡ lexeme.Name
w_name k below = let spells = decimal_spells k below in w_by (decimal k) spells.some spells.all

pub u_name : (k : ℕ) → IsSmall k → word_of (numbered (codes "u") k) ≡ lexeme.Name
unfolding word_of
u_name k below = refl
