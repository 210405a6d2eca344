-- The bytes before the first fault of a text are its tokens.
use Rattle.std.proofs.Common.{◌≡◌, ℕ, zero, suc, ◌+◌, ◌-◌, ◌≤◌, List, Bool, true, false, cond, not, ◌&&◌}
use Rattle.std.proofs.Common.{◌||◌, ◌==◌, [], ◌∷◌, length}
use Rattle.std.proofs.Common.{take, drop, Option, Some, None, arith, refl, sym, ap, ◌∙◌}
use Rattle.std.specs.Prelude.{codes}
use Rattle.std.specs.List.{list_all}
use Rattle.std.specs.Str.{bytes_eq}
use Rattle.std.proofs.lemmas.Bool.{eqb-true}
use Rattle.std.proofs.lemmas.List.Folds.{length-prefix_len}
use Rattle.ca_lex.specs.declared.token.TokenKind.{TokenKind}
use Rattle.ca_lex.specs.declared.token.TokenKind.TheVariants as kind
use Rattle.ca_token.specs.declared.fault.Flaw as fault
use Rattle.ca_token.specs.declared.piece.Piece.{Piece}
use Rattle.ca_token.specs.declared.piece.Piece.TheVariants.{Blank, Skipped, Found, Broken}
use Rattle.ca_token.specs.declared.fault.LexKind.TheVariants.{Syntax, Unsupported, NotText}
use Rattle.ca_token.specs.Bytes.{is_white, is_text, is_plain, is_letter, is_digit, begins_name, is_sign}
use Rattle.ca_token.specs.Bytes.{begins_with}
use Rattle.ca_lex.specs.Physical.{line_len}
use Rattle.ca_token.specs.Bytes.{name_len, digits_len, text_len, constant_len}
use Rattle.ca_token.specs.Piece.{closes, comment_from, attribute_from, slash_piece, open_piece, is_directive}
use Rattle.ca_token.specs.Piece.{directive_line}
use Rattle.ca_token.specs.Piece.{directive_piece, has_quote, is_bit, escaped_before, escaped_piece}
use Rattle.ca_token.specs.Piece.{constant_piece, number_before}
use Rattle.ca_token.specs.Piece.{number_piece, quote_piece, sign_piece, piece_of}
use Rattle.ca_token.specs.Scan.{Scan, broken_at, with_token, token_at, scan_from}
use Rattle.ca_token.proofs.CutLemmas.{IsUncut, piece_cut, after_name, after_quote, after_escaped}
use Rattle.ca_token.proofs.CutLemmas.{after_directive}
use Rattle.ca_token.proofs.CutLemmas.{after_open, after_slash, after_white}

-- what a piece leaves to be read
abbrev by_piece : Bool → ℕ → ℕ → List ℕ → Piece → Scan
by_piece begins_line place byte more Blank = scan_from (begins_line || byte == 10) 0 (place + 1) more
by_piece begins_line place byte more (Skipped len) = scan_from false (len - 1) (place + 1) more
by_piece begins_line place byte more (Found found len) = with_token (token_at place found len) (scan_from false (len - 1) (place + 1) more)
by_piece begins_line place byte more (Broken shift reported) = broken_at place shift reported

first_is : (begins_line : Bool) (place byte : ℕ) (more : List ℕ) (piece : Piece) → piece_of begins_line (byte ∷ more) ≡ piece
    → scan_from begins_line 0 place (byte ∷ more) ≡ by_piece begins_line place byte more piece
unfolding scan_from
first_is begins_line place byte more piece is = whole (piece_of begins_line (byte ∷ more)) ∙ ap (by_piece begins_line place byte more) is
  where
    whole : (given : Piece) → elim given as (λ _. Scan) [
      | Blank ↦ scan_from (begins_line || byte == 10) 0 (place + 1) more
      | Skipped len ↦ scan_from false (len - 1) (place + 1) more
      | Found found len ↦ with_token (token_at place found len) (scan_from false (len - 1) (place + 1) more)
      | Broken shift reported ↦ broken_at place shift reported
    ] ≡ by_piece begins_line place byte more given
    whole Blank = refl
    whole (Skipped len) = refl
    whole (Found found len) = refl
    whole (Broken shift reported) = refl

-- a choice has what both its ways have
ways : (P : Piece → Type 0) (test : Bool) (one other : Piece) → (test ≡ true → P one) → (test ≡ false → P other) → P (cond test one other)
ways P true one other first second = first refl
ways P false one other first second = second refl

abbrev begins_white : List ℕ → Bool
begins_white [] = false
begins_white (byte ∷ more) = is_white byte

-- white space follows an escaped name
abbrev IsParted : List ℕ → Piece → Type 0
IsParted text Blank = Unit {0}
IsParted text (Skipped len) = Unit {0}
IsParted text (Found found len) = found ≡ kind.Escaped → begins_white (drop len text) ≡ true
IsParted text (Broken shift reported) = Unit {0}

comment_parted : (whole : List ℕ) (start : ℕ) (text : List ℕ) → IsParted whole (comment_from start text)
comment_parted whole start [] = tt
comment_parted whole start (byte ∷ more) =
    ways (IsParted whole) (closes 47 (byte ∷ more)) (Skipped (start + 2)) (comment_from (start + 1) more) (λ yes. tt)
    (λ no. comment_parted whole (start + 1) more)

attribute_parted : (whole : List ℕ) (start : ℕ) (text : List ℕ) → IsParted whole (attribute_from start text)
attribute_parted whole start [] = tt
attribute_parted whole start (byte ∷ more) =
    ways (IsParted whole) (closes 41 (byte ∷ more)) (Skipped (start + 2))
    (cond (is_plain byte) (attribute_from (start + 1) more) (Broken start NotText)) (λ yes. tt)
    (λ no. ways (IsParted whole) (is_plain byte) (attribute_from (start + 1) more) (Broken start NotText)
    (λ plain. attribute_parted whole (start + 1) more) (λ other. tt))

slash_parted : (whole more : List ℕ) → IsParted whole (slash_piece more)
unfolding slash_piece
slash_parted whole [] = tt
slash_parted whole (byte ∷ more) =
    ways (IsParted whole) (byte == 47) (Skipped (2 + line_len more)) (cond (byte == 42) (comment_from 2 more) (Broken 0 Syntax)) (λ yes. tt)
    (λ no. ways (IsParted whole) (byte == 42) (comment_from 2 more) (Broken 0 Syntax) (λ star. comment_parted whole 2 more) (λ other. tt))

open_parted : (whole more : List ℕ) → IsParted whole (open_piece more)
unfolding open_piece
open_parted whole [] = λ same. absurd cc
open_parted whole (byte ∷ more) =
    ways (IsParted whole) (byte == 42 && not (begins_with 41 more)) (attribute_from 2 more) (Found kind.Sign 1)
    (λ yes. attribute_parted whole 2 more) (λ no same. absurd cc)

directive_parted : (whole : List ℕ) (begins_line : Bool) (more : List ℕ) → IsParted whole (directive_piece begins_line more)
unfolding directive_piece
directive_parted whole begins_line more =
    ways (IsParted whole) (begins_line && is_directive (take (name_len more) more)) (directive_line (take (line_len more) more))
    (Broken 0 Unsupported)
    (λ yes. ways (IsParted whole) (list_all is_plain (take (line_len more) more)) (Skipped (1 + length (take (line_len more) more)))
    (Broken 0 NotText) (λ plain. tt) (λ other. tt)) (λ no. tt)

escaped_parted : (byte : ℕ) (more : List ℕ) → IsParted (byte ∷ more) (escaped_piece more)
unfolding escaped_piece
escaped_parted byte more = by (take (text_len more) more) (drop (text_len more) more) (length-prefix_len is_text more) refl
  where
    by : (name rest : List ℕ) → length name ≡ text_len more → drop (text_len more) more ≡ rest → IsParted (byte ∷ more) (escaped_before name rest)
    by name [] count is =
        ways (IsParted (byte ∷ more)) (has_quote name) (Broken 0 Unsupported) (Broken 0 Syntax) (λ yes. tt) (λ no. tt)
    by name (next ∷ following) count is =
        ways (IsParted (byte ∷ more)) (not (is_white next)) (Broken 0 NotText)
        (cond (has_quote name) (Broken 0 Unsupported) (cond (length name == 0) (Broken 0 Syntax) (Found kind.Escaped (1 + length name))))
        (λ yes. tt)
        (λ white. ways (IsParted (byte ∷ more)) (has_quote name) (Broken 0 Unsupported)
        (cond (length name == 0) (Broken 0 Syntax) (Found kind.Escaped (1 + length name))) (λ yes. tt)
        (λ plain. ways (IsParted (byte ∷ more)) (length name == 0) (Broken 0 Syntax) (Found kind.Escaped (1 + length name)) (λ yes. tt)
        (λ some same.
        let left : drop (1 + length name) (byte ∷ more) ≡ next ∷ following = dropped (length name) count ∙ is in
        ap begins_white left ∙ is_true (is_white next) white)))
      where
        is_true : (white : Bool) → not white ≡ false → white ≡ true
        is_true true reported = refl
        is_true false reported = absurd cc

        dropped : (len : ℕ) → len ≡ text_len more → drop (1 + len) (byte ∷ more) ≡ drop (text_len more) more
        dropped len same =
            let one : 1 + len ≡ suc (text_len more) = omega (arith, same) in
            ap (λ (count : ℕ). drop count (byte ∷ more)) one

constant_parted : (whole digits value : List ℕ) → IsParted whole (constant_piece digits value)
unfolding constant_piece
constant_parted whole digits value =
    ways (IsParted whole) (bytes_eq digits (codes "1") && is_bit value) (Found kind.Constant (length digits + 1 + length value))
    (Broken 0 Unsupported) (λ yes same. absurd cc) (λ no. tt)

before_parted : (whole digits rest : List ℕ) → IsParted whole (number_before digits rest)
before_parted whole digits [] = λ same. absurd cc
before_parted whole digits (next ∷ more) =
    ways (IsParted whole) (next == 39) (constant_piece digits (take (constant_len more) more)) (Found kind.Number (length digits))
    (λ yes. constant_parted whole digits (take (constant_len more) more)) (λ no same. absurd cc)

number_parted : (whole text : List ℕ) → IsParted whole (number_piece text)
unfolding number_piece
number_parted whole text = before_parted whole (take (digits_len text) text) (drop (digits_len text) text)

quote_parted : (whole more : List ℕ) → IsParted whole (quote_piece more)
unfolding quote_piece
quote_parted whole [] = tt
quote_parted whole (byte ∷ more) =
    ways (IsParted whole) (is_letter byte || is_digit byte) (Broken 0 Unsupported) (Broken 0 Syntax) (λ yes. tt) (λ no. tt)

sign_parted : (whole : List ℕ) (byte : ℕ) → IsParted whole (sign_piece byte)
sign_parted whole byte =
    ways (IsParted whole) (is_sign byte) (Found kind.Sign 1)
    (cond (not (is_text byte)) (Broken 0 NotText) (cond (byte == 35 || byte == 123) (Broken 0 Unsupported) (Broken 0 Syntax)))
    (λ yes same. absurd cc)
    (λ no. ways (IsParted whole) (not (is_text byte)) (Broken 0 NotText)
    (cond (byte == 35 || byte == 123) (Broken 0 Unsupported) (Broken 0 Syntax)) (λ yes. tt)
    (λ other. ways (IsParted whole) (byte == 35 || byte == 123) (Broken 0 Unsupported) (Broken 0 Syntax) (λ yes. tt) (λ rest. tt)))

piece_parted : (begins_line : Bool) (byte : ℕ) (more : List ℕ) → IsParted (byte ∷ more) (piece_of begins_line (byte ∷ more))
unfolding piece_of
piece_parted begins_line byte more =
    ways (IsParted (byte ∷ more)) (is_white byte) Blank (after_white begins_line byte more) (λ yes. tt)
    (λ no. ways (IsParted (byte ∷ more)) (byte == 47) (slash_piece more) (after_slash begins_line byte more) (λ yes. slash_parted (byte ∷ more) more)
    (λ other. ways (IsParted (byte ∷ more)) (byte == 40) (open_piece more) (after_open begins_line byte more) (λ yes. open_parted (byte ∷ more) more)
    (λ no. ways (IsParted (byte ∷ more)) (byte == 96) (directive_piece begins_line more) (after_directive byte more)
    (λ yes. directive_parted (byte ∷ more) begins_line more)
    (λ other. ways (IsParted (byte ∷ more)) (byte == 92) (escaped_piece more) (after_escaped byte more) (λ yes. escaped_parted byte more)
    (λ no. ways (IsParted (byte ∷ more)) (byte == 39) (quote_piece more) (after_quote byte more) (λ yes. quote_parted (byte ∷ more) more)
    (λ other. ways (IsParted (byte ∷ more)) (begins_name byte) (Found kind.Name (name_len (byte ∷ more))) (after_name byte more)
    (λ yes same. absurd cc)
    (λ no. ways (IsParted (byte ∷ more)) (is_digit byte) (number_piece (byte ∷ more)) (sign_piece byte)
    (λ yes. number_parted (byte ∷ more) (byte ∷ more)) (λ other. sign_parted (byte ∷ more) byte))))))))

some_same : {X : Type 0} (one other : X) → ◌≡◌ {A = Option X} (Some one) (Some other) → one ≡ other
some_same one other is = cc

-- a fault follows what was passed over before it
flaw_after : (begins_line : Bool) (passed place : ℕ) (text : List ℕ) (flaw : fault.Flaw) → (scan_from begins_line passed place text).flaw ≡ Some flaw
    → place + passed ≤ flaw.at
unfolding scan_from
flaw_after begins_line zero place [] flaw is = absurd cc
flaw_after begins_line (suc passed) place [] flaw is = absurd cc
flaw_after begins_line (suc passed) place (byte ∷ more) flaw is = omega (arith, flaw_after begins_line passed (place + 1) more flaw is)
flaw_after begins_line zero place (byte ∷ more) flaw is =
    by (piece_of begins_line (byte ∷ more))
    (ap (λ (scan : Scan). scan.flaw) (sym (first_is begins_line place byte more (piece_of begins_line (byte ∷ more)) refl)) ∙ is)
    (λ line passed reported. flaw_after line passed (place + 1) more flaw reported)
  where
    by : (piece : Piece) → (by_piece begins_line place byte more piece).flaw ≡ Some flaw
        → ((line : Bool) (passed : ℕ) → (scan_from line passed (place + 1) more).flaw ≡ Some flaw → place + 1 + passed ≤ flaw.at)
        → place + 0 ≤ flaw.at
    by Blank reported later = omega (arith, later (begins_line || byte == 10) 0 reported)
    by (Skipped len) reported later = omega (arith, later false (len - 1) reported)
    by (Found found len) reported later = omega (arith, later false (len - 1) reported)
    by (Broken shift given) reported later =
        let same : place ≡ flaw.at = ap (λ (one : fault.Flaw). one.at) (some_same _ flaw reported) in
        omega (arith, same)

white_piece : (byte : ℕ) (more : List ℕ) → is_white byte ≡ true → piece_of false (byte ∷ more) ≡ Blank
unfolding piece_of
white_piece byte more reported = ap (λ (white : Bool). cond white Blank (after_white false byte more)) reported

star_piece : (more : List ℕ) → piece_of false (42 ∷ more) ≡ Broken 0 Syntax
unfolding piece_of
star_piece more = refl

-- the fault follows white space that follows what was passed over
white_after : (passed place : ℕ) (text : List ℕ) (flaw : fault.Flaw) → begins_white (drop passed text) ≡ true
    → (scan_from false passed place text).flaw ≡ Some flaw → place + passed + 1 ≤ flaw.at
unfolding scan_from
white_after zero place [] flaw white is = absurd cc
white_after (suc passed) place [] flaw white is = absurd cc
white_after (suc passed) place (byte ∷ more) flaw white is = omega (arith, white_after passed (place + 1) more flaw white is)
white_after zero place (byte ∷ more) flaw white is =
    let blank : piece_of false (byte ∷ more) ≡ Blank = white_piece byte more white in
    omega (
      arith,
      flaw_after (false || byte == 10) 0 (place + 1) more flaw
          (ap (λ (scan : Scan). scan.flaw) (sym (first_is false place byte more Blank blank)) ∙ is),
    )

-- a `*` is a fault
star_here : (place : ℕ) (more : List ℕ) (flaw : fault.Flaw) → begins_with 42 more ≡ true → (scan_from false 0 place more).flaw ≡ Some flaw
    → place ≡ flaw.at
unfolding scan_from
star_here place [] flaw star is = absurd cc
star_here place (byte ∷ more) flaw star is =
    let same : byte ≡ 42 = eqb-true byte 42 star in
    ap (λ (one : fault.Flaw). one.at) (some_same _ flaw
    (ap (λ (scan : Scan). scan.flaw) (sym (first_is false place byte more (Broken 0 Syntax) (ap (λ (one : ℕ). piece_of false (one ∷ more)) same ∙ star_piece more))) ∙ is))

-- the same tokens, and no fault
abbrev pub sound : Scan → Scan
sound scan = record { tokens = scan.tokens; flaw = None }

-- what is read before the first fault, which is that far on, is all that the bytes before it are
pub before_flaw : (begins_line : Bool) (passed place : ℕ) (text : List ℕ) (flaw : fault.Flaw)
    → (scan_from begins_line passed place text).flaw ≡ Some flaw
    → scan_from begins_line passed place (take (flaw.at - place) text) ≡ sound (scan_from begins_line passed place text)
unfolding scan_from
before_flaw begins_line zero place [] flaw is = absurd cc
before_flaw begins_line (suc passed) place [] flaw is = absurd cc
before_flaw begins_line (suc passed) place (byte ∷ more) flaw is =
    let following : place + 1 + passed ≤ flaw.at = flaw_after begins_line passed (place + 1) more flaw is in
    ap (λ (count : ℕ). scan_from begins_line (suc passed) place (take count (byte ∷ more))) (count following)
    ∙ before_flaw begins_line passed (place + 1) more flaw is
  where
    count : place + 1 + passed ≤ flaw.at → flaw.at - place ≡ suc (flaw.at - (place + 1))
    count following = omega (arith, following)
before_flaw begins_line zero place (byte ∷ more) flaw is =
    by (piece_of begins_line (byte ∷ more)) refl (piece_parted begins_line byte more)
    (ap (λ (scan : Scan). scan.flaw) (sym (first_is begins_line place byte more (piece_of begins_line (byte ∷ more)) refl)) ∙ is)
    (λ line passed reported. before_flaw line passed (place + 1) more flaw reported)
    ∙ ap sound (sym (first_is begins_line place byte more (piece_of begins_line (byte ∷ more)) refl))
  where
    front : (piece : Piece) → piece_of begins_line (byte ∷ more) ≡ piece → place + 1 ≤ flaw.at → IsUncut (flaw.at - (place + 1)) piece
        → (Found kind.Sign 1 ≡ piece → begins_with 42 more ≡ true → flaw.at - (place + 1) ≡ 0)
        → scan_from begins_line 0 place (take (flaw.at - place) (byte ∷ more))
        ≡ by_piece begins_line place byte (take (flaw.at - (place + 1)) more) piece
    front piece at following uncut lone =
        let one : flaw.at - place ≡ suc (flaw.at - (place + 1)) = omega (arith, following) in
        ap (λ (count : ℕ). scan_from begins_line 0 place (take count (byte ∷ more))) one
        ∙ first_is begins_line place byte (take (flaw.at - (place + 1)) more) piece (piece_cut begins_line (flaw.at - (place + 1)) byte more piece uncut lone at)

    by : (piece : Piece) → piece_of begins_line (byte ∷ more) ≡ piece → IsParted (byte ∷ more) piece
        → (by_piece begins_line place byte more piece).flaw ≡ Some flaw
        → ((line : Bool) (passed : ℕ) → (scan_from line passed (place + 1) more).flaw ≡ Some flaw
        → scan_from line passed (place + 1) (take (flaw.at - (place + 1)) more) ≡ sound (scan_from line passed (place + 1) more))
        → scan_from begins_line 0 place (take (flaw.at - place) (byte ∷ more)) ≡ sound (by_piece begins_line place byte more piece)
    by Blank at parted reported later =
        let following : place + 1 + 0 ≤ flaw.at = flaw_after (begins_line || byte == 10) 0 (place + 1) more flaw reported in
        front Blank at (omega (arith, following)) tt (λ same. absurd cc) ∙ later (begins_line || byte == 10) 0 reported
    by (Skipped len) at parted reported later =
        let following : place + 1 + (len - 1) ≤ flaw.at = flaw_after false (len - 1) (place + 1) more flaw reported in
        front (Skipped len) at (omega (arith, following)) (omega (arith, following)) (λ same. absurd cc) ∙ later false (len - 1) reported
    by (Found found len) at parted reported later =
        let following : place + 1 + (len - 1) ≤ flaw.at = flaw_after false (len - 1) (place + 1) more flaw reported in
        front (Found found len) at (omega (arith, following))
        (omega (arith, following), λ escaped. white_cut len (parted escaped) reported)
        (λ same star. lone_cut (found_len found len same) star reported)
        ∙ ap (with_token (token_at place found len)) (later false (len - 1) reported)
      where
        found_len : (found : TokenKind) (len : ℕ) → Found kind.Sign 1 ≡ Found found len → len ≡ 1
        found_len found len same = cc

        white_cut : (len : ℕ) → begins_white (drop len (byte ∷ more)) ≡ true → (scan_from false (len - 1) (place + 1) more).flaw ≡ Some flaw
            → len ≤ flaw.at - (place + 1)
        white_cut zero white given = omega arith
        white_cut (suc count) white given =
            let same : suc count - 1 ≡ count = omega arith in
            let past : place + 1 + count + 1 ≤ flaw.at =
            white_after count (place + 1) more flaw white
            (ap (λ (passed : ℕ). (scan_from false passed (place + 1) more).flaw) (sym same) ∙ given) in
            omega (arith, past)

        lone_cut : len ≡ 1 → begins_with 42 more ≡ true → (scan_from false (len - 1) (place + 1) more).flaw ≡ Some flaw
            → flaw.at - (place + 1) ≡ 0
        lone_cut one star given =
            let none : len - 1 ≡ 0 = omega (arith, one) in
            let here : place + 1 ≡ flaw.at =
            star_here (place + 1) more flaw star (ap (λ (passed : ℕ). (scan_from false passed (place + 1) more).flaw) (sym none) ∙ given) in
            omega (arith, here)
    by (Broken shift given) at parted reported later =
        let same : place ≡ flaw.at = ap (λ (one : fault.Flaw). one.at) (some_same _ flaw reported) in
        let none : flaw.at - place ≡ 0 = omega (arith, same) in
        ap (λ (count : ℕ). scan_from begins_line 0 place (take count (byte ∷ more))) none
