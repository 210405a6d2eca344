-- Each identifier of a text has a name of bytes from 33 to 126 without a double quote.
use Rattle.std.proofs.Common.{◌≡◌, ℕ, zero, suc, ◌+◌, ◌-◌, ◌==◌, ◌<◌, ◌≤◌, Bool, true, false, cond, not, ◌&&◌}
use Rattle.std.proofs.Common.{◌||◌, List, [], ◌∷◌, ◌∙◌, length, take, drop, map, ap, arith, refl, sym, subst, inl, inr}
use Rattle.std.specs.Prelude.{codes, nat_le, nat_lt, ◌*◌, ⊤, if◌then◌else◌}
use Rattle.std.specs.List.{All, AllByRecursion, list_all, list_any, prefix_len}
use Rattle.std.specs.Str.{bytes_eq}
use Rattle.std.proofs.lemmas.Bool.{or_cases, or_left, eqb-true, leb-true, le-leb, ne_eqb}
use Rattle.std.proofs.lemmas.List.Folds.{length-prefix_len}
use Rattle.ca_lex.specs.declared.token.Token.{Token}
use Rattle.ca_lex.specs.declared.token.TokenKind.{TokenKind}
use Rattle.ca_lex.specs.declared.token.TokenKind.TheVariants as kind
use Rattle.ca_token.specs.declared.piece.Piece.{Piece}
use Rattle.ca_token.specs.declared.piece.Piece.TheVariants.{Blank, Skipped, Found, Broken}
use Rattle.ca_token.specs.declared.fault.LexKind.TheVariants.{Syntax, Unsupported, NotText}
use Rattle.ca_token.specs.Bytes as bytes
use Rattle.ca_token.specs.Bytes.{is_white, is_text, is_plain, is_letter, is_digit, begins_name, is_sign}
use Rattle.ca_lex.specs.Physical.{line_len}
use Rattle.ca_token.specs.Bytes.{begins_with, name_len, digits_len, text_len, constant_len}
use Rattle.ca_token.specs.Piece.{closes, comment_from, attribute_from, slash_piece, open_piece, is_directive}
use Rattle.ca_token.specs.Piece.{directive_line, directive_piece, has_quote, is_bit, escaped_before}
use Rattle.ca_token.specs.Piece.{escaped_piece, constant_piece, number_before, number_piece, quote_piece}
use Rattle.ca_token.specs.Piece.{sign_piece, piece_of}
use Rattle.ca_token.specs.Scan.{Scan, broken_at, with_token, token_at, scan_from, scan_of, text_of}
use Rattle.ca_token.proofs.CutLemmas.{after_name, after_quote, after_escaped, after_directive, after_open}
use Rattle.ca_token.proofs.CutLemmas.{after_slash, after_white}
use Rattle.ca_token.specs.Names.{is_unquoted, is_plain_name, HasPlainName, NamesArePlain}

-- a token that the text begins with is such
abbrev IsNamedPiece : List ℕ → Piece → Type 0
IsNamedPiece text Blank = ⊤
IsNamedPiece text (Skipped len) = ⊤
IsNamedPiece text (Found found len) = HasPlainName found (take len text)
IsNamedPiece text (Broken shift reported) = ⊤

-- a choice has what both its ways have
ways : {T : Type 0} (P : T → Type 0) (test : Bool) (one other : T) → (test ≡ true → P one) → (test ≡ false → P other) → P (cond test one other)
ways P true one other first second = first refl
ways P false one other first second = second refl

-- bytes
left_true : (left right : Bool) → (left && right) ≡ true → left ≡ true
left_true true right is = refl
left_true false right is = is

right_true : (left right : Bool) → (left && right) ≡ true → right ≡ true
right_true true right is = is
right_true false right is = absurd cc

not_false : (test : Bool) → test ≡ false → not test ≡ true
not_false true is = absurd cc
not_false false is = refl

false_not : (test : Bool) → not test ≡ true → test ≡ false
false_not true is = absurd cc
false_not false is = refl

name_byte_of : (byte : ℕ) → 33 ≤ byte → byte ≤ 126 → (byte ≡ 34 → ⊥) → is_unquoted byte ≡ true
name_byte_of byte low high other =
    let least = le-leb 33 byte low in
    let most = le-leb byte 126 high in
    let apart = not_false (byte == 34) (ne_eqb byte 34 other) in
    λ j. (least j && most j) && apart j

within : (low high byte : ℕ) → 35 ≤ low → high ≤ 126 → (nat_le low byte && nat_le byte high) ≡ true → is_unquoted byte ≡ true
within low high byte above below is =
    let least = leb-true low byte (left_true (nat_le low byte) (nat_le byte high) is) in
    let most = leb-true byte high (right_true (nat_le low byte) (nat_le byte high) is) in
    name_byte_of byte (omega (arith, least, above)) (omega (arith, most, below)) (λ same. omega (arith, same, least, above))

single : (one byte : ℕ) → 35 ≤ one → one ≤ 126 → (byte == one) ≡ true → is_unquoted byte ≡ true
single one byte above below is =
    let same = eqb-true byte one is in
    name_byte_of byte (omega (arith, same, above)) (omega (arith, same, below)) (λ quote. omega (arith, same, quote, above))

letter_named : (byte : ℕ) → is_letter byte ≡ true → is_unquoted byte ≡ true
letter_named byte is = elim (or_cases (nat_le 65 byte && nat_le byte 90) (nat_le 97 byte && nat_le byte 122) is) [
  | inl upper ↦ within 65 90 byte (omega arith) (omega arith) upper
  | inr lower ↦ within 97 122 byte (omega arith) (omega arith) lower
]

beginning_named : (byte : ℕ) → begins_name byte ≡ true → is_unquoted byte ≡ true
beginning_named byte is = elim (or_cases (is_letter byte) (byte == 95) is) [
  | inl letter ↦ letter_named byte letter
  | inr line ↦ single 95 byte (omega arith) (omega arith) line
]

byte_named : (byte : ℕ) → bytes.is_name_byte byte ≡ true → is_unquoted byte ≡ true
byte_named byte is = elim (or_cases (begins_name byte || is_digit byte) (byte == 36) is) [
  | inl more ↦ elim (or_cases (begins_name byte) (is_digit byte) more) [
    | inl first ↦ beginning_named byte first
    | inr digit ↦ within 48 57 byte (omega arith) (omega arith) digit
  ]
  | inr dollar ↦ single 36 byte (omega arith) (omega arith) dollar
]

-- each byte of a run passes the test
run_passes : (test : ℕ → Bool) (text : List ℕ) → list_all test (take (prefix_len test text) text) ≡ true
run_passes test [] = refl
run_passes test (byte ∷ more) = by (test byte) refl (run_passes test more)
  where
    by : (passes : Bool) → test byte ≡ passes → list_all test (take (prefix_len test more) more) ≡ true
        → list_all test (take (cond passes (1 + prefix_len test more) 0) (byte ∷ more)) ≡ true
    by true is later =
        let one : 1 + prefix_len test more ≡ suc (prefix_len test more) = omega arith in
        ap (λ (count : ℕ). list_all test (take count (byte ∷ more))) one ∙ (λ j. is j && later j)
    by false is later = refl

weaker : (test other : ℕ → Bool) → ((byte : ℕ) → test byte ≡ true → other byte ≡ true) → (text : List ℕ)
    → list_all test text ≡ true → list_all other text ≡ true
weaker test other implies [] all = refl
weaker test other implies (byte ∷ more) all =
    let here = implies byte (left_true (test byte) (list_all test more) all) in
    let later = weaker test other implies more (right_true (test byte) (list_all test more) all) in
    λ j. here j && later j

-- a name without a backslash
name_named : (byte : ℕ) (more : List ℕ) → begins_name byte ≡ true → is_plain_name (take (name_len (byte ∷ more)) (byte ∷ more)) ≡ true
name_named byte more begins =
    let first : bytes.is_name_byte byte ≡ true =
    or_left (begins_name byte || is_digit byte) (byte == 36) (or_left (begins_name byte) (is_digit byte) begins) in
    let long : name_len (byte ∷ more) ≡ suc (name_len more) =
    ap (λ (test : Bool). cond test (1 + name_len more) 0) first ∙ (let one : 1 + name_len more ≡ suc (name_len more) = omega arith in one) in
    let all = weaker bytes.is_name_byte is_unquoted byte_named (take (name_len (byte ∷ more)) (byte ∷ more))
    (run_passes bytes.is_name_byte (byte ∷ more)) in
    let some : not (length (take (name_len (byte ∷ more)) (byte ∷ more)) == 0) ≡ true =
    ap (λ (count : ℕ). not (length (take count (byte ∷ more)) == 0)) long
    ∙ not_false (suc (length (take (name_len more) more)) == 0) (ne_eqb (suc (length (take (name_len more) more))) 0 (λ same. omega (arith, same))) in
    λ j. some j && all j

-- a name after a backslash
unquoted : (name : List ℕ) → list_all is_text name ≡ true → has_quote name ≡ false → list_all is_unquoted name ≡ true
unquoted [] all none = refl
unquoted (byte ∷ name) all none =
    by (left_true (is_text byte) (list_all is_text name) all) (byte == 34) refl none
    (unquoted name (right_true (is_text byte) (list_all is_text name) all))
  where
    by : is_text byte ≡ true → (test : Bool) → (byte == 34) ≡ test → (test || has_quote name) ≡ false
        → (has_quote name ≡ false → list_all is_unquoted name ≡ true) → list_all is_unquoted (byte ∷ name) ≡ true
    by here true is given later = absurd cc
    by here false is given later =
        let more = later given in
        let apart = not_false (byte == 34) is in
        λ j. (here j && apart j) && more j

escaped_named : (byte : ℕ) (more : List ℕ) → IsNamedPiece (byte ∷ more) (escaped_piece more)
unfolding escaped_piece
escaped_named byte more = by (take (text_len more) more) (drop (text_len more) more) refl (length-prefix_len is_text more)
  where
    by : (name rest : List ℕ) → name ≡ take (text_len more) more → length name ≡ text_len more
        → IsNamedPiece (byte ∷ more) (escaped_before name rest)
    by name [] is count = ways (IsNamedPiece (byte ∷ more)) (has_quote name) (Broken 0 Unsupported) (Broken 0 Syntax) (λ yes. tt) (λ no. tt)
    by name (next ∷ rest) is count =
        ways (IsNamedPiece (byte ∷ more)) (not (is_white next)) (Broken 0 NotText)
        (cond (has_quote name) (Broken 0 Unsupported) (cond (length name == 0) (Broken 0 Syntax) (Found kind.Escaped (1 + length name))))
        (λ yes. tt)
        (λ white. ways (IsNamedPiece (byte ∷ more)) (has_quote name) (Broken 0 Unsupported)
        (cond (length name == 0) (Broken 0 Syntax) (Found kind.Escaped (1 + length name))) (λ yes. tt)
        (λ plain. ways (IsNamedPiece (byte ∷ more)) (length name == 0) (Broken 0 Syntax) (Found kind.Escaped (1 + length name)) (λ yes. tt)
        (λ some. found plain some)))
      where
        found : has_quote name ≡ false → (length name == 0) ≡ false → is_plain_name (drop 1 (take (1 + length name) (byte ∷ more))) ≡ true
        found plain some =
            let one : 1 + length name ≡ suc (text_len more) = omega (arith, count) in
            let cut : drop 1 (take (1 + length name) (byte ∷ more)) ≡ name =
            ap (λ (len : ℕ). drop 1 (take len (byte ∷ more))) one ∙ sym is in
            let there = not_false (length name == 0) some in
            let all = unquoted name (subst (λ (text : List ℕ). list_all is_text text ≡ true) (sym is) (run_passes is_text more)) plain in
            ap is_plain_name cut ∙ (λ j. there j && all j)

-- what else a text begins with is no identifier
comment_named : (whole : List ℕ) (start : ℕ) (text : List ℕ) → IsNamedPiece whole (comment_from start text)
comment_named whole start [] = tt
comment_named whole start (byte ∷ more) =
    ways (IsNamedPiece whole) (closes 47 (byte ∷ more)) (Skipped (start + 2)) (comment_from (start + 1) more) (λ yes. tt)
    (λ no. comment_named whole (start + 1) more)

attribute_named : (whole : List ℕ) (start : ℕ) (text : List ℕ) → IsNamedPiece whole (attribute_from start text)
attribute_named whole start [] = tt
attribute_named whole start (byte ∷ more) =
    ways (IsNamedPiece whole) (closes 41 (byte ∷ more)) (Skipped (start + 2))
    (cond (is_plain byte) (attribute_from (start + 1) more) (Broken start NotText)) (λ yes. tt)
    (λ no. ways (IsNamedPiece whole) (is_plain byte) (attribute_from (start + 1) more) (Broken start NotText)
    (λ plain. attribute_named whole (start + 1) more) (λ other. tt))

slash_named : (whole more : List ℕ) → IsNamedPiece whole (slash_piece more)
unfolding slash_piece
slash_named whole [] = tt
slash_named whole (byte ∷ more) =
    ways (IsNamedPiece whole) (byte == 47) (Skipped (2 + line_len more)) (cond (byte == 42) (comment_from 2 more) (Broken 0 Syntax)) (λ yes. tt)
    (λ no. ways (IsNamedPiece whole) (byte == 42) (comment_from 2 more) (Broken 0 Syntax) (λ star. comment_named whole 2 more) (λ other. tt))

open_named : (whole more : List ℕ) → IsNamedPiece whole (open_piece more)
unfolding open_piece
open_named whole [] = tt
open_named whole (byte ∷ more) =
    ways (IsNamedPiece whole) (byte == 42 && not (begins_with 41 more)) (attribute_from 2 more) (Found kind.Sign 1)
    (λ yes. attribute_named whole 2 more) (λ no. tt)

directive_named : (whole : List ℕ) (begins_line : Bool) (more : List ℕ) → IsNamedPiece whole (directive_piece begins_line more)
unfolding directive_piece
directive_named whole begins_line more =
    ways (IsNamedPiece whole) (begins_line && is_directive (take (name_len more) more)) (directive_line (take (line_len more) more))
    (Broken 0 Unsupported)
    (λ yes. ways (IsNamedPiece whole) (list_all is_plain (take (line_len more) more)) (Skipped (1 + length (take (line_len more) more)))
    (Broken 0 NotText) (λ plain. tt) (λ other. tt)) (λ no. tt)

constant_named : (whole digits value : List ℕ) → IsNamedPiece whole (constant_piece digits value)
unfolding constant_piece
constant_named whole digits value =
    ways (IsNamedPiece whole) (bytes_eq digits (codes "1") && is_bit value) (Found kind.Constant (length digits + 1 + length value))
    (Broken 0 Unsupported) (λ yes. tt) (λ no. tt)

before_named : (whole digits rest : List ℕ) → IsNamedPiece whole (number_before digits rest)
before_named whole digits [] = tt
before_named whole digits (next ∷ more) =
    ways (IsNamedPiece whole) (next == 39) (constant_piece digits (take (constant_len more) more)) (Found kind.Number (length digits))
    (λ yes. constant_named whole digits (take (constant_len more) more)) (λ no. tt)

number_named : (whole text : List ℕ) → IsNamedPiece whole (number_piece text)
unfolding number_piece
number_named whole text = before_named whole (take (digits_len text) text) (drop (digits_len text) text)

quote_named : (whole more : List ℕ) → IsNamedPiece whole (quote_piece more)
unfolding quote_piece
quote_named whole [] = tt
quote_named whole (byte ∷ more) =
    ways (IsNamedPiece whole) (is_letter byte || is_digit byte) (Broken 0 Unsupported) (Broken 0 Syntax) (λ yes. tt) (λ no. tt)

sign_named : (whole : List ℕ) (byte : ℕ) → IsNamedPiece whole (sign_piece byte)
sign_named whole byte =
    ways (IsNamedPiece whole) (is_sign byte) (Found kind.Sign 1)
    (cond (not (is_text byte)) (Broken 0 NotText) (cond (byte == 35 || byte == 123) (Broken 0 Unsupported) (Broken 0 Syntax)))
    (λ yes. tt)
    (λ no. ways (IsNamedPiece whole) (not (is_text byte)) (Broken 0 NotText)
    (cond (byte == 35 || byte == 123) (Broken 0 Unsupported) (Broken 0 Syntax)) (λ yes. tt)
    (λ other. ways (IsNamedPiece whole) (byte == 35 || byte == 123) (Broken 0 Unsupported) (Broken 0 Syntax) (λ yes. tt) (λ rest. tt)))

piece_named : (begins_line : Bool) (byte : ℕ) (more : List ℕ) → IsNamedPiece (byte ∷ more) (piece_of begins_line (byte ∷ more))
unfolding piece_of
piece_named begins_line byte more =
    ways (IsNamedPiece (byte ∷ more)) (is_white byte) Blank (after_white begins_line byte more) (λ yes. tt)
    (λ no. ways (IsNamedPiece (byte ∷ more)) (byte == 47) (slash_piece more) (after_slash begins_line byte more) (λ yes. slash_named (byte ∷ more) more)
    (λ other. ways (IsNamedPiece (byte ∷ more)) (byte == 40) (open_piece more) (after_open begins_line byte more) (λ yes. open_named (byte ∷ more) more)
    (λ no. ways (IsNamedPiece (byte ∷ more)) (byte == 96) (directive_piece begins_line more) (after_directive byte more)
    (λ yes. directive_named (byte ∷ more) begins_line more)
    (λ other. ways (IsNamedPiece (byte ∷ more)) (byte == 92) (escaped_piece more) (after_escaped byte more) (λ yes. escaped_named byte more)
    (λ no. ways (IsNamedPiece (byte ∷ more)) (byte == 39) (quote_piece more) (after_quote byte more) (λ yes. quote_named (byte ∷ more) more)
    (λ other. ways (IsNamedPiece (byte ∷ more)) (begins_name byte) (Found kind.Name (name_len (byte ∷ more))) (after_name byte more)
    (λ yes. name_named byte more yes)
    (λ no. ways (IsNamedPiece (byte ∷ more)) (is_digit byte) (number_piece (byte ∷ more)) (sign_piece byte)
    (λ yes. number_named (byte ∷ more) (byte ∷ more)) (λ other. sign_named (byte ∷ more) byte))))))))

-- what a piece leaves to be read
abbrev by_piece : Bool → ℕ → ℕ → List ℕ → Piece → Scan
by_piece begins_line place byte more Blank = scan_from (begins_line || byte == 10) 0 (place + 1) more
by_piece begins_line place byte more (Skipped len) = scan_from false (len - 1) (place + 1) more
by_piece begins_line place byte more (Found found len) = with_token (token_at place found len) (scan_from false (len - 1) (place + 1) more)
by_piece begins_line place byte more (Broken shift reported) = broken_at place shift reported

first_is : (begins_line : Bool) (place byte : ℕ) (more : List ℕ)
    → scan_from begins_line 0 place (byte ∷ more) ≡ by_piece begins_line place byte more (piece_of begins_line (byte ∷ more))
unfolding scan_from
first_is begins_line place byte more = whole (piece_of begins_line (byte ∷ more))
  where
    whole : (given : Piece) → elim given as (λ _. Scan) [
      | Blank ↦ scan_from (begins_line || byte == 10) 0 (place + 1) more
      | Skipped len ↦ scan_from false (len - 1) (place + 1) more
      | Found found len ↦ with_token (token_at place found len) (scan_from false (len - 1) (place + 1) more)
      | Broken shift reported ↦ broken_at place shift reported
    ] ≡ by_piece begins_line place byte more given
    whole Blank = refl
    whole (Skipped len) = refl
    whole (Found found len) = refl
    whole (Broken shift reported) = refl

-- a text after one more byte
next_text : (whole : List ℕ) (place byte : ℕ) (more : List ℕ) → drop place whole ≡ byte ∷ more → drop (place + 1) whole ≡ more
next_text [] zero byte more at = absurd cc
next_text [] (suc place) byte more at = absurd cc
next_text (first ∷ whole) zero byte more at = cc
next_text (first ∷ whole) (suc place) byte more at =
    let one : suc place + 1 ≡ suc (place + 1) = omega arith in
    ap (λ (count : ℕ). drop count (first ∷ whole)) one ∙ next_text whole place byte more at

-- the token is such in the text
abbrev pub IsNamedToken : List ℕ → Token → Type 0
IsNamedToken text token = HasPlainName token.kind (text_of token text)

scan_named : (begins_line : Bool) (passed place : ℕ) (text whole : List ℕ) → drop place whole ≡ text
    → AllByRecursion (IsNamedToken whole) (scan_from begins_line passed place text).tokens
unfolding scan_from
scan_named begins_line zero place [] whole at = tt
scan_named begins_line (suc passed) place [] whole at = tt
scan_named begins_line (suc passed) place (byte ∷ more) whole at =
    scan_named begins_line passed (place + 1) more whole (next_text whole place byte more at)
scan_named begins_line zero place (byte ∷ more) whole at =
    subst (λ (scan : Scan). AllByRecursion (IsNamedToken whole) scan.tokens) (sym (first_is begins_line place byte more))
    (by (piece_of begins_line (byte ∷ more)) (piece_named begins_line byte more)
    (λ line passed. scan_named line passed (place + 1) more whole (next_text whole place byte more at)))
  where
    by : (piece : Piece) → IsNamedPiece (byte ∷ more) piece
        → ((line : Bool) (passed : ℕ) → AllByRecursion (IsNamedToken whole) (scan_from line passed (place + 1) more).tokens)
        → AllByRecursion (IsNamedToken whole) (by_piece begins_line place byte more piece).tokens
    by Blank named later = later (begins_line || byte == 10) 0
    by (Skipped len) named later = later false (len - 1)
    by (Found found len) named later =
        let count : place + len - place ≡ len = omega arith in
        let same : text_of (token_at place found len) whole ≡ take len (byte ∷ more) =
        (λ j. take (count j) (at j)) in
        (subst (HasPlainName found) (sym same) named, later false (len - 1))
    by (Broken shift reported) named later = tt

from_recursion : {X : Type 0} (P : X → Type 0) (xs : List X) → AllByRecursion P xs → All P xs
from_recursion P [] all k d below = absurd (omega (arith, below))
from_recursion P (x ∷ xs) all zero d below = all.0
from_recursion P (x ∷ xs) all (suc k) d below = from_recursion P xs all.1 k d (omega (arith, below))

pub names_plain : NamesArePlain
names_plain text = from_recursion (IsNamedToken text) (scan_of text).tokens (scan_named true 0 0 text text refl)
