-- Tokens of a text, one after the other.
use Rattle.std.proofs.Common.{◌≡◌, ℕ, zero, suc, ◌+◌, ◌-◌, ◌<◌, ◌≤◌, Bool, true, false, ◌||◌, ◌==◌, List}
use Rattle.std.proofs.Common.{[], ◌∷◌, length, drop, get_or, arith, refl}
use Rattle.std.proofs.Common.{sym, ap, ◌∙◌, subst}
use Rattle.std.proofs.lemmas.List.{drop_more, length-drop, drop-drop}
use Rattle.std.proofs.Math.ListN.{drop_of_length-le}
use Rattle.std.proofs.lemmas.Bool.{eqb-true}
use Rattle.ca_lex.specs.declared.token.TokenKind.{TokenKind}
use Rattle.ca_token.specs.declared.fault.LexKind.{LexKind}
use Rattle.ca_token.specs.declared.piece.Piece.{Piece}
use Rattle.ca_token.specs.declared.piece.Piece.TheVariants.{Blank, Skipped, Found, Broken}
use Rattle.ca_token.specs.Piece.{piece_of}
use Rattle.ca_token.specs.code.Piece.{IsWithin}
use Rattle.ca_token.specs.Next.{IsNextToken, IsNextFlaw}
use Rattle.ca_token.specs.Scan.{Scan, nothing, broken_at, with_token, token_at, scan_from, tokens_after}

-- bytes of a piece are passed over
pub passed_over : (begins_line : Bool) (passed place : ℕ) (text : List ℕ) → scan_from begins_line passed place text ≡ scan_from begins_line 0 (place + passed) (drop passed text)
unfolding scan_from
passed_over begins_line zero place text = ap (λ (at : ℕ). scan_from begins_line 0 at text) (omega arith)
passed_over begins_line (suc passed) place [] = refl
passed_over begins_line (suc passed) place (byte ∷ more) =
    let next : place + 1 + passed ≡ place + suc passed = omega arith in
    passed_over begins_line passed (place + 1) more ∙ ap (λ (at : ℕ). scan_from begins_line 0 at (drop passed more)) next

-- what is left after the piece that a text begins with
abbrev pub after_piece : Bool → ℕ → List ℕ → Piece → Scan
after_piece begins_line place [] piece = nothing
after_piece begins_line place (byte ∷ more) Blank = scan_from (begins_line || byte == 10) 0 (place + 1) more
after_piece begins_line place (byte ∷ more) (Skipped len) = scan_from false 0 (place + len) (drop len (byte ∷ more))
after_piece begins_line place (byte ∷ more) (Found kind len) = with_token (token_at place kind len) (scan_from false 0 (place + len) (drop len (byte ∷ more)))
after_piece begins_line place (byte ∷ more) (Broken shift kind) = broken_at place shift kind

-- a piece of some bytes is passed over
passed_piece : (place len : ℕ) (byte : ℕ) (more : List ℕ) → 0 < len → scan_from false (len - 1) (place + 1) more ≡ scan_from false 0 (place + len) (drop len (byte ∷ more))
passed_piece place zero byte more some = absurd (omega arith)
passed_piece place (suc len) byte more some =
    let less : suc len - 1 ≡ len = omega arith in
    let at : place + 1 + len ≡ place + suc len = omega arith in
    ap (λ (count : ℕ). scan_from false count (place + 1) more) less ∙ passed_over false len (place + 1) more
    ∙ ap (λ (p : ℕ). scan_from false 0 p (drop len more)) at

-- what a text that begins with a piece leaves to be read
pub first_piece : (begins_line : Bool) (place byte : ℕ) (more : List ℕ) (piece : Piece) → piece ≡ piece_of begins_line (byte ∷ more)
    → IsWithin (length (byte ∷ more)) piece
    → scan_from begins_line 0 place (byte ∷ more) ≡ after_piece begins_line place (byte ∷ more) piece
unfolding scan_from
first_piece begins_line place byte more piece is within = ap by_piece (sym is) ∙ passed piece within
  where
    by_piece : Piece → Scan
    by_piece given = elim given as (λ _. Scan) [
      | Blank ↦ scan_from (begins_line || byte == 10) 0 (place + 1) more
      | Skipped len ↦ scan_from false (len - 1) (place + 1) more
      | Found kind len ↦ with_token (token_at place kind len) (scan_from false (len - 1) (place + 1) more)
      | Broken shift kind ↦ broken_at place shift kind
    ]

    passed : (given : Piece) → IsWithin (length (byte ∷ more)) given → by_piece given ≡ after_piece begins_line place (byte ∷ more) given
    passed Blank some = refl
    passed (Skipped len) (some, few) = passed_piece place len byte more some
    passed (Found kind len) (some, few) = ap (with_token (token_at place kind len)) (passed_piece place len byte more some)
    passed (Broken shift kind) some = refl

-- what is left of a text after a place, by the piece there
pub piece_at : (begins_line : Bool) (text : List ℕ) (at : ℕ) (piece : Piece) → at < length text → piece ≡ piece_of begins_line (drop at text)
    → IsWithin (length (drop at text)) piece
    → scan_from begins_line 0 at (drop at text) ≡ after_piece begins_line at (drop at text) piece
piece_at begins_line text at piece within = by (drop at text) (length-drop at text)
  where
    by : (left : List ℕ) → length left ≡ length text - at → piece ≡ piece_of begins_line left → IsWithin (length left) piece
        → scan_from begins_line 0 at left ≡ after_piece begins_line at left piece
    by [] count is some = absurd (omega arith)
    by (byte ∷ more) count is some = first_piece begins_line at byte more piece is some

-- what is left after a piece that isn't white space, as a function of the text that begins with it
drop_first : (begins_line : Bool) (text : List ℕ) (at : ℕ) (piece : Piece) → at < length text → (left_of : List ℕ → Scan)
    → ((byte : ℕ) (more : List ℕ) → after_piece begins_line at (byte ∷ more) piece ≡ left_of (byte ∷ more))
    → piece ≡ piece_of begins_line (drop at text) → IsWithin (length (drop at text)) piece
    → scan_from begins_line 0 at (drop at text) ≡ left_of (drop at text)
drop_first begins_line text at piece within left_of same is some =
    piece_at begins_line text at piece within is some ∙ by (drop at text) (length-drop at text)
  where
    by : (left : List ℕ) → length left ≡ length text - at → after_piece begins_line at left piece ≡ left_of left
    by [] count = absurd (omega arith)
    by (byte ∷ more) count = same byte more

not_zero : (count : ℕ) → 0 < count → (count == 0) ≡ false
not_zero count some = by (count == 0) refl
  where
    by : (is_zero : Bool) → (count == 0) ≡ is_zero → is_zero ≡ false
    by true is =
        let none : count ≡ 0 = eqb-true count 0 is in
        absurd (omega arith)
    by false is = refl

-- white space is passed over
pub blank_passed : (begins_line : Bool) (text : List ℕ) (at none : ℕ) (total : Scan) → (here : List ℕ) → here ≡ drop at text → at < length text → Blank ≡ piece_of begins_line here
    → scan_from begins_line 0 at (drop at text) ≡ total
    → scan_from (begins_line || get_or text at none == 10) 0 (at + 1) (drop (at + 1) text) ≡ total
blank_passed begins_line text at none total here here_is within is so_far =
    let some : 0 < length (drop at text) = omega (arith, length-drop at text) in
    sym (ap (λ (left : List ℕ). after_piece begins_line at left Blank) (drop_more text at none within))
    ∙ sym (piece_at begins_line text at Blank within (is ∙ ap (piece_of begins_line) here_is) some) ∙ so_far

-- what is skipped is passed over
pub skipped_passed : (begins_line : Bool) (text : List ℕ) (at len : ℕ) (total : Scan) → (here : List ℕ) → here ≡ drop at text → at < length text → Skipped len ≡ piece_of begins_line here
    → (0 < len) × (len ≤ length here) → scan_from begins_line 0 at (drop at text) ≡ total
    → scan_from false 0 (at + len) (drop (at + len) text) ≡ total
skipped_passed begins_line text at len total here here_is within is some so_far =
    let at_piece : Skipped len ≡ piece_of begins_line (drop at text) = is ∙ ap (piece_of begins_line) here_is in
    let fits : IsWithin (length (drop at text)) (Skipped len) = subst (λ (left : List ℕ). IsWithin (length left) (Skipped len)) here_is some in
    ap (scan_from false 0 (at + len)) (sym (drop-drop len at text))
    ∙ sym (drop_first begins_line text at (Skipped len) within (λ (left : List ℕ). scan_from false 0 (at + len) (drop len left)) (λ byte more. refl) at_piece fits) ∙ so_far

-- a token comes before those after it
pub token_found : (begins_line : Bool) (text : List ℕ) (place at len : ℕ) (kind : TokenKind) → (here : List ℕ) → here ≡ drop at text → at < length text → place ≤ at → Found kind len ≡ piece_of begins_line here
    → (0 < len) × (len ≤ length here) → scan_from begins_line 0 at (drop at text) ≡ tokens_after place text
    → IsNextToken text place (token_at at kind len) (tokens_after place text)
token_found begins_line text place at len kind here here_is within following is some so_far =
    let at_piece : Found kind len ≡ piece_of begins_line (drop at text) = is ∙ ap (piece_of begins_line) here_is in
    let fits : IsWithin (length (drop at text)) (Found kind len) = subst (λ (left : List ℕ). IsWithin (length left) (Found kind len)) here_is some in
    let count : length (drop at text) ≡ length text - at = length-drop at text in
    let begins_none : (at + len == 0) ≡ false = not_zero (at + len) (omega (arith, some.0)) in
    let first : scan_from begins_line 0 at (drop at text) ≡ with_token (token_at at kind len) (scan_from false 0 (at + len) (drop len (drop at text))) =
    drop_first begins_line text at (Found kind len) within (λ (left : List ℕ). with_token (token_at at kind len) (scan_from false 0 (at + len) (drop len left))) (λ byte more. refl) at_piece fits in
    record {
      following = following;
      some = omega (arith, some.0);
      within = omega (arith, fits.1, count);
      first = sym so_far ∙ first
          ∙ ap (λ (left : List ℕ). with_token (token_at at kind len) (scan_from false 0 (at + len) left)) (drop-drop len at text)
          ∙ ap (λ (is_first : Bool). with_token (token_at at kind len) (scan_from is_first 0 (at + len) (drop (at + len) text))) (sym begins_none);
    }

-- a fault comes before any token
pub flaw_found : (begins_line : Bool) (text : List ℕ) (place at shift : ℕ) (kind : LexKind) → (here : List ℕ) → here ≡ drop at text → at < length text → place ≤ at → Broken shift kind ≡ piece_of begins_line here
    → shift < length here → scan_from begins_line 0 at (drop at text) ≡ tokens_after place text
    → IsNextFlaw text place (record { at = at; place = at + shift; kind = kind }) (tokens_after place text)
flaw_found begins_line text place at shift kind here here_is within following is some so_far =
    let at_piece : Broken shift kind ≡ piece_of begins_line (drop at text) = is ∙ ap (piece_of begins_line) here_is in
    let fits : IsWithin (length (drop at text)) (Broken shift kind) = subst (λ (left : List ℕ). IsWithin (length left) (Broken shift kind)) here_is some in
    let count : length (drop at text) ≡ length text - at = length-drop at text in
    record {
      following = following;
      within = omega (arith, fits, count);
      first = sym so_far ∙ drop_first begins_line text at (Broken shift kind) within (λ (left : List ℕ). broken_at at shift kind) (λ byte more. refl) at_piece fits;
    }

-- nothing is left at the end of a text
pub nothing_left : (begins_line : Bool) (text : List ℕ) (at : ℕ) → length text ≤ at → scan_from begins_line 0 at (drop at text) ≡ nothing
unfolding scan_from
nothing_left begins_line text at over = ap (scan_from begins_line 0 at) (drop_of_length-le text over)
