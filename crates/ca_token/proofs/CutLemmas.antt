-- A piece stays the same where the text after it is cut off.
use Rattle.std.proofs.Common.{◌≡◌, ℕ, zero, suc, ◌+◌, ◌-◌, ◌<◌, ◌≤◌, List, Bool, true, false, cond, not, ◌&&◌}
use Rattle.std.proofs.Common.{◌||◌, [], ◌∷◌, length}
use Rattle.std.proofs.Common.{take, drop, arith, refl, sym, ap, ◌∙◌, subst, ◌==◌, true≢false}
use Rattle.std.specs.Prelude.{codes}
use Rattle.std.specs.Str.{bytes_eq}
use Rattle.std.specs.List.{prefix_len, list_all}
use Rattle.std.proofs.lemmas.Bool.{eqb-true}
use Rattle.std.proofs.lemmas.List.{take-take}
use Rattle.std.proofs.lemmas.List.Folds.{length-prefix_len}
use Rattle.ca_lex.specs.declared.token.TokenKind.TheVariants as kind
use Rattle.ca_token.specs.declared.fault.LexKind.{LexKind}
use Rattle.ca_token.specs.declared.fault.LexKind.TheVariants.{Syntax, Unsupported, NotText}
use Rattle.ca_token.specs.declared.piece.Piece.{Piece}
use Rattle.ca_token.specs.declared.piece.Piece.TheVariants.{Blank, Skipped, Found, Broken}
use Rattle.ca_token.specs.Bytes.{is_white, is_text, is_plain, is_name_byte, is_constant_byte, begins_name}
use Rattle.ca_token.specs.Bytes.{is_letter, is_digit, begins_with, name_len, digits_len, text_len}
use Rattle.ca_lex.specs.Physical.{line_len}
use Rattle.ca_token.specs.Bytes.{constant_len}
use Rattle.ca_token.specs.Piece.{has_quote, is_bit, closes, comment_from, attribute_from, slash_piece}
use Rattle.ca_token.specs.Piece.{open_piece, is_directive, directive_line}
use Rattle.ca_token.specs.Piece.{directive_piece, escaped_before, escaped_piece, constant_piece}
use Rattle.ca_token.specs.Piece.{number_before, number_piece}
use Rattle.ca_token.specs.Piece.{quote_piece, sign_piece, piece_of}

-- a run that ends before the cut
pub prefix_cut : (test : ℕ → Bool) (cut : ℕ) (text : List ℕ) → prefix_len test text ≤ cut
    → prefix_len test (take cut text) ≡ prefix_len test text
prefix_cut test zero [] within = refl
prefix_cut test (suc cut) [] within = refl
prefix_cut test zero (byte ∷ more) within = omega arith
prefix_cut test (suc cut) (byte ∷ more) within = by (test byte) within (prefix_cut test cut more)
  where
    by : (passes : Bool) → cond passes (1 + prefix_len test more) 0 ≤ suc cut
        → (prefix_len test more ≤ cut → prefix_len test (take cut more) ≡ prefix_len test more)
        → cond passes (1 + prefix_len test (take cut more)) 0 ≡ cond passes (1 + prefix_len test more) 0
    by true within later = ap (λ (count : ℕ). 1 + count) (later (omega arith))
    by false within later = refl

-- its bytes
run_cut : (test : ℕ → Bool) (cut : ℕ) (text : List ℕ) → prefix_len test text ≤ cut
    → take (prefix_len test (take cut text)) (take cut text) ≡ take (prefix_len test text) text
run_cut test cut text within =
    ap (λ (count : ℕ). take count (take cut text)) (prefix_cut test cut text within)
    ∙ take-take (prefix_len test text) cut text within

-- two bytes that close a comment are before the cut
closes_cut : (sign cut : ℕ) (text : List ℕ) → 2 ≤ cut → closes sign (take cut text) ≡ closes sign text
closes_cut sign zero text some = absurd (omega arith)
closes_cut sign (suc cut) [] some = refl
closes_cut sign (suc zero) (byte ∷ more) some = absurd (omega arith)
closes_cut sign (suc (suc cut)) (byte ∷ []) some = refl
closes_cut sign (suc (suc cut)) (byte ∷ next ∷ more) some = refl

-- the piece ends before the cut, which is `cut` bytes after its first; an escaped name ends before another
-- byte
abbrev pub IsUncut : ℕ → Piece → Type 0
IsUncut cut Blank = Unit {0}
IsUncut cut (Skipped len) = len ≤ suc cut
IsUncut cut (Found found len) = (len ≤ suc cut) × (found ≡ kind.Escaped → len ≤ cut)
IsUncut cut (Broken shift fault) = ⊥

-- something that is skipped and has at least this many bytes, or a fault
abbrev IsRead : ℕ → Piece → Type 0
IsRead least Blank = ⊥
IsRead least (Skipped len) = least ≤ len
IsRead least (Found found len) = ⊥
IsRead least (Broken shift fault) = Unit {0}

weaker : (least more : ℕ) → least ≤ more → (piece : Piece) → IsRead more piece → IsRead least piece
weaker least more within Blank is = is
weaker least more within (Skipped len) is = omega (arith, is)
weaker least more within (Found found len) is = is
weaker least more within (Broken shift fault) is = tt

long_enough : (least cut : ℕ) (piece : Piece) → IsRead least piece → IsUncut cut piece → least ≤ suc cut
long_enough least cut Blank is uncut = absurd is
long_enough least cut (Skipped len) is uncut = omega (arith, is, uncut)
long_enough least cut (Found found len) is uncut = absurd is
long_enough least cut (Broken shift fault) is uncut = absurd uncut

broken_none : (cut shift : ℕ) (fault : LexKind) (piece : Piece) → IsUncut cut piece → Broken shift fault ≡ piece → ⊥
broken_none cut shift fault piece uncut is = subst (IsUncut cut) (sym is) uncut

-- a choice is cut where each of its ways is
either : (test : Bool) (one other cut_one cut_other piece : Piece) → (test ≡ true → one ≡ piece → cut_one ≡ piece)
    → (test ≡ false → other ≡ piece → cut_other ≡ piece) → cond test one other ≡ piece → cond test cut_one cut_other ≡ piece
either true one other cut_one cut_other piece first second is = first refl is
either false one other cut_one cut_other piece first second is = second refl is

choose : {X : Type 0} (test : Bool) (one other piece : Piece) → (test ≡ true → one ≡ piece → X) → (test ≡ false → other ≡ piece → X)
    → cond test one other ≡ piece → X
choose true one other piece first second is = first refl is
choose false one other piece first second is = second refl is

comment_read : (start : ℕ) (text : List ℕ) → IsRead (start + 2) (comment_from start text)
comment_read start [] = tt
comment_read start (byte ∷ more) = by (closes 47 (byte ∷ more)) (comment_read (start + 1) more)
  where
    by : (ends : Bool) → IsRead (start + 1 + 2) (comment_from (start + 1) more)
        → IsRead (start + 2) (cond ends (Skipped (start + 2)) (comment_from (start + 1) more))
    by true later = omega arith
    by false later = weaker (start + 2) (start + 1 + 2) (omega arith) (comment_from (start + 1) more) later

attribute_read : (start : ℕ) (text : List ℕ) → IsRead (start + 2) (attribute_from start text)
attribute_read start [] = tt
attribute_read start (byte ∷ more) = by (closes 41 (byte ∷ more)) (is_plain byte) (attribute_read (start + 1) more)
  where
    by : (ends plain : Bool) → IsRead (start + 1 + 2) (attribute_from (start + 1) more)
        → IsRead (start + 2) (cond ends (Skipped (start + 2)) (cond plain (attribute_from (start + 1) more) (Broken start NotText)))
    by true plain later = omega arith
    by false true later = weaker (start + 2) (start + 1 + 2) (omega arith) (attribute_from (start + 1) more) later
    by false false later = tt

comment_cut : (whole start cut : ℕ) (text : List ℕ) (piece : Piece) → start + cut ≡ suc whole → IsUncut whole piece
    → comment_from start text ≡ piece → comment_from start (take cut text) ≡ piece
comment_cut whole start cut [] piece fits uncut is = absurd (broken_none whole (start - 1) Syntax piece uncut is)
comment_cut whole start zero (byte ∷ more) piece fits uncut is =
    absurd (omega (arith, fits, long_enough (start + 2) whole piece (subst (IsRead (start + 2)) is (comment_read start (byte ∷ more))) uncut))
comment_cut whole start (suc cut) (byte ∷ more) piece fits uncut is =
    let long : start + 2 ≤ suc whole =
    long_enough (start + 2) whole piece (subst (IsRead (start + 2)) is (comment_read start (byte ∷ more))) uncut in
    ap (λ (ends : Bool). cond ends (Skipped (start + 2)) (comment_from (start + 1) (take cut more)))
    (closes_cut 47 (suc cut) (byte ∷ more) (omega (arith, long, fits)))
    ∙ either (closes 47 (byte ∷ more)) (Skipped (start + 2)) (comment_from (start + 1) more) (Skipped (start + 2))
    (comment_from (start + 1) (take cut more)) piece (λ ends reported. reported)
    (λ ends reported. comment_cut whole (start + 1) cut more piece (omega (arith, fits)) uncut reported) is

attribute_cut : (whole start cut : ℕ) (text : List ℕ) (piece : Piece) → start + cut ≡ suc whole → IsUncut whole piece
    → attribute_from start text ≡ piece → attribute_from start (take cut text) ≡ piece
attribute_cut whole start cut [] piece fits uncut is = absurd (broken_none whole (start - 1) Syntax piece uncut is)
attribute_cut whole start zero (byte ∷ more) piece fits uncut is =
    absurd (omega (arith, fits, long_enough (start + 2) whole piece (subst (IsRead (start + 2)) is (attribute_read start (byte ∷ more))) uncut))
attribute_cut whole start (suc cut) (byte ∷ more) piece fits uncut is =
    let long : start + 2 ≤ suc whole =
    long_enough (start + 2) whole piece (subst (IsRead (start + 2)) is (attribute_read start (byte ∷ more))) uncut in
    ap (λ (ends : Bool). cond ends (Skipped (start + 2)) (cond (is_plain byte) (attribute_from (start + 1) (take cut more)) (Broken start NotText)))
    (closes_cut 41 (suc cut) (byte ∷ more) (omega (arith, long, fits)))
    ∙ either (closes 41 (byte ∷ more)) (Skipped (start + 2)) (cond (is_plain byte) (attribute_from (start + 1) more) (Broken start NotText))
    (Skipped (start + 2)) (cond (is_plain byte) (attribute_from (start + 1) (take cut more)) (Broken start NotText)) piece (λ ends reported. reported)
    (λ ends reported. either (is_plain byte) (attribute_from (start + 1) more) (Broken start NotText) (attribute_from (start + 1) (take cut more))
    (Broken start NotText) piece (λ plain read. attribute_cut whole (start + 1) cut more piece (omega (arith, fits)) uncut read)
    (λ plain read. read) reported) is

slash_cut : (cut : ℕ) (more : List ℕ) (piece : Piece) → IsUncut cut piece → slash_piece more ≡ piece → slash_piece (take cut more) ≡ piece
unfolding slash_piece
slash_cut cut [] piece uncut is = absurd (broken_none cut 0 Syntax piece uncut is)
slash_cut zero (byte ∷ more) piece uncut is =
    choose (byte == 47) (Skipped (2 + line_len more)) (cond (byte == 42) (comment_from 2 more) (Broken 0 Syntax)) piece
    (λ yes reported. absurd (few (line_len more) (subst (IsUncut 0) (sym reported) uncut)))
    (λ no reported. choose (byte == 42) (comment_from 2 more) (Broken 0 Syntax) piece
    (λ yes read. absurd (short (long_enough 4 0 piece (subst (IsRead 4) read (comment_read 2 more)) uncut))) (λ other read. read) reported) is
  where
    few : (count : ℕ) → 2 + count ≤ 1 → ⊥
    few count is = omega (arith, is)

    short : 4 ≤ 1 → ⊥
    short is = omega (arith, is)
slash_cut (suc cut) (byte ∷ more) piece uncut is =
    either (byte == 47) (Skipped (2 + line_len more)) (cond (byte == 42) (comment_from 2 more) (Broken 0 Syntax))
    (Skipped (2 + line_len (take cut more))) (cond (byte == 42) (comment_from 2 (take cut more)) (Broken 0 Syntax)) piece
    (λ yes reported. ap (λ (count : ℕ). Skipped (2 + count))
    (prefix_cut (λ one. not (one == 10)) cut more (less (line_len more) (subst (IsUncut (suc cut)) (sym reported) uncut))) ∙ reported)
    (λ no reported. either (byte == 42) (comment_from 2 more) (Broken 0 Syntax) (comment_from 2 (take cut more)) (Broken 0 Syntax) piece
    (λ yes read. comment_cut (suc cut) 2 cut more piece (omega arith) uncut read) (λ other read. read) reported) is
  where
    less : (count : ℕ) → 2 + count ≤ suc (suc cut) → count ≤ cut
    less count is = omega (arith, is)

star_false : (star other : Bool) → star ≡ false → (star && other) ≡ false
star_false star other is = ap (λ (one : Bool). one && other) is

begins_cut : (sign cut : ℕ) (text : List ℕ) → 1 ≤ cut → begins_with sign (take cut text) ≡ begins_with sign text
begins_cut sign zero text some = absurd (omega (arith, some))
begins_cut sign (suc cut) [] some = refl
begins_cut sign (suc cut) (byte ∷ more) some = refl

-- a `(` is a sign where no `*` follows before the cut
open_cut : (cut : ℕ) (more : List ℕ) (piece : Piece) → IsUncut cut piece → (Found kind.Sign 1 ≡ piece → begins_with 42 more ≡ true → cut ≡ 0)
    → open_piece more ≡ piece → open_piece (take cut more) ≡ piece
unfolding open_piece
open_cut zero [] piece uncut lone is = is
open_cut (suc cut) [] piece uncut lone is = is
open_cut zero (byte ∷ more) piece uncut lone is =
    choose (byte == 42 && not (begins_with 41 more)) (attribute_from 2 more) (Found kind.Sign 1) piece
    (λ yes reported. absurd (short (long_enough 4 0 piece (subst (IsRead 4) reported (attribute_read 2 more)) uncut))) (λ no reported. reported) is
  where
    short : 4 ≤ 1 → ⊥
    short is = omega (arith, is)
open_cut (suc cut) (byte ∷ more) piece uncut lone is =
    choose (byte == 42 && not (begins_with 41 more)) (attribute_from 2 more) (Found kind.Sign 1) piece
    (λ yes reported.
    let long : 4 ≤ suc (suc cut) = long_enough 4 (suc cut) piece (subst (IsRead 4) reported (attribute_read 2 more)) uncut in
    ap (λ (test : Bool). cond test (attribute_from 2 (take cut more)) (Found kind.Sign 1))
    (ap (λ (ends : Bool). byte == 42 && not ends) (begins_cut 41 cut more (omega (arith, long))) ∙ yes)
    ∙ attribute_cut (suc cut) 2 cut more piece (omega arith) uncut reported)
    (λ no reported.
    ap (λ (test : Bool). cond test (attribute_from 2 (take cut more)) (Found kind.Sign 1))
    (star_false (byte == 42) (not (begins_with 41 (take cut more))) (no_star (byte == 42) (lone reported))) ∙ reported) is
  where
    no_star : (star : Bool) → (star ≡ true → suc cut ≡ 0) → star ≡ false
    no_star true none = absurd (omega (arith, none refl))
    no_star false none = refl

prefix_within : (one other : ℕ → Bool) → ((byte : ℕ) → one byte ≡ true → other byte ≡ true) → (text : List ℕ)
    → prefix_len one text ≤ prefix_len other text
prefix_within one other implies [] = omega arith
prefix_within one other implies (byte ∷ more) =
    by (one byte) (other byte) (implies byte) (prefix_within one other implies more)
  where
    by : (first second : Bool) → (first ≡ true → second ≡ true) → prefix_len one more ≤ prefix_len other more
        → cond first (1 + prefix_len one more) 0 ≤ cond second (1 + prefix_len other more) 0
    by false second is later = omega arith
    by true true is later = omega (arith, later)
    by true false is later = absurd (true≢false (sym (is refl)))

name_line : (byte : ℕ) → is_name_byte byte ≡ true → not (byte == 10) ≡ true
name_line byte is = by (byte == 10) refl
  where
    by : (ends : Bool) → byte == 10 ≡ ends → not ends ≡ true
    by false reported = refl
    by true reported =
        let ten : byte ≡ 10 = eqb-true byte 10 reported in
        absurd (true≢false (sym is ∙ ap is_name_byte ten))

directive_cut : (begins_line : Bool) (cut : ℕ) (more : List ℕ) (piece : Piece) → IsUncut cut piece → directive_piece begins_line more ≡ piece
    → directive_piece begins_line (take cut more) ≡ piece
unfolding directive_piece
directive_cut begins_line cut more piece uncut is =
    choose (begins_line && is_directive (take (name_len more) more)) (directive_line (take (line_len more) more)) (Broken 0 Unsupported) piece
    (λ yes reported.
    let line : line_len more ≤ cut = line_within (take (line_len more) more) (length-prefix_len (λ byte. not (byte == 10)) more) reported in
    let name : name_len more ≤ cut =
    omega (arith, line, prefix_within is_name_byte (λ byte. not (byte == 10)) name_line more) in
    ap (λ (word : List ℕ). cond (begins_line && is_directive word) (directive_line (take (line_len (take cut more)) (take cut more))) (Broken 0 Unsupported))
    (run_cut is_name_byte cut more name)
    ∙ ap (λ (test : Bool). cond test (directive_line (take (line_len (take cut more)) (take cut more))) (Broken 0 Unsupported)) yes
    ∙ ap directive_line (run_cut (λ byte. not (byte == 10)) cut more line) ∙ reported)
    (λ no reported. absurd (broken_none cut 0 Unsupported piece uncut reported)) is
  where
    line_within : (line : List ℕ) → length line ≡ line_len more → directive_line line ≡ piece → line_len more ≤ cut
    line_within line count reported =
        choose (list_all is_plain line) (Skipped (1 + length line)) (Broken 0 NotText) piece
        (λ yes read. less (length line) count (subst (IsUncut cut) (sym read) uncut))
        (λ no read. absurd (broken_none cut 0 NotText piece uncut read)) reported
      where
        less : (len : ℕ) → len ≡ line_len more → 1 + len ≤ suc cut → line_len more ≤ cut
        less len same is = omega (arith, same, is)

no_bytes : (count : ℕ) → ◌≡◌ {A = List ℕ} [] (take count [])
no_bytes zero = refl
no_bytes (suc count) = refl

none_taken : (count : ℕ) (text : List ℕ) → count ≡ 0 → ◌≡◌ {A = List ℕ} [] (take count text)
none_taken count text is = ap (λ (less : ℕ). take less text) (sym is)

drop_take : (count cut : ℕ) (text : List ℕ) → drop count (take cut text) ≡ take (cut - count) (drop count text)
drop_take zero cut text = ap (λ (less : ℕ). take less text) (omega arith)
drop_take (suc count) zero [] = no_bytes (zero - suc count)
drop_take (suc count) (suc cut) [] = no_bytes (suc cut - suc count)
drop_take (suc count) zero (byte ∷ more) = none_taken (zero - suc count) (drop count more) (omega arith)
drop_take (suc count) (suc cut) (byte ∷ more) =
    drop_take count cut more ∙ ap (λ (less : ℕ). take less (drop count more)) (omega arith)

escaped_cut : (cut : ℕ) (more : List ℕ) (piece : Piece) → IsUncut cut piece → escaped_piece more ≡ piece → escaped_piece (take cut more) ≡ piece
unfolding escaped_piece
escaped_cut cut more piece uncut is =
    let name_count : length (take (text_len more) more) ≡ text_len more = length-prefix_len is_text more in
    let name : text_len more < cut = name_within (take (text_len more) more) (drop (text_len more) more) name_count is in
    let count : text_len (take cut more) ≡ text_len more = prefix_cut is_text cut more (omega (arith, name)) in
    ap (λ (word : List ℕ). escaped_before word (drop (text_len (take cut more)) (take cut more))) (run_cut is_text cut more (omega (arith, name)))
    ∙ ap (λ (len : ℕ). escaped_before (take (text_len more) more) (drop len (take cut more))) count
    ∙ ap (escaped_before (take (text_len more) more)) (drop_take (text_len more) cut more)
    ∙ same_next (cut - text_len more) (take (text_len more) more) (drop (text_len more) more) (omega (arith, name)) is
  where
    same_next : (less : ℕ) (word rest : List ℕ) → 0 < less → escaped_before word rest ≡ piece → escaped_before word (take less rest) ≡ piece
    same_next zero word rest some reported = absurd (omega (arith, some))
    same_next (suc less) word [] some reported = reported
    same_next (suc less) word (next ∷ following) some reported = reported

    name_within : (word rest : List ℕ) → length word ≡ text_len more → escaped_before word rest ≡ piece → text_len more < cut
    name_within word [] same reported =
        choose (has_quote word) (Broken 0 Unsupported) (Broken 0 Syntax) piece
        (λ yes read. absurd (broken_none cut 0 Unsupported piece uncut read)) (λ no read. absurd (broken_none cut 0 Syntax piece uncut read)) reported
    name_within word (next ∷ following) same reported =
        choose (not (is_white next)) (Broken 0 NotText)
        (cond (has_quote word) (Broken 0 Unsupported) (cond (length word == 0) (Broken 0 Syntax) (Found kind.Escaped (1 + length word)))) piece
        (λ yes read. absurd (broken_none cut 0 NotText piece uncut read))
        (λ no read. choose (has_quote word) (Broken 0 Unsupported) (cond (length word == 0) (Broken 0 Syntax) (Found kind.Escaped (1 + length word))) piece
        (λ quoted read. absurd (broken_none cut 0 Unsupported piece uncut read))
        (λ plain read. choose (length word == 0) (Broken 0 Syntax) (Found kind.Escaped (1 + length word)) piece
        (λ empty read. absurd (broken_none cut 0 Syntax piece uncut read))
        (λ some read. less (length word) same ((subst (IsUncut cut) (sym read) uncut).1 refl)) read) read) reported
      where
        less : (len : ℕ) → len ≡ text_len more → 1 + len ≤ cut → text_len more < cut
        less len same is = omega (arith, same, is)

-- digits with what follows them up to the cut, where `less` bytes are before it
number_after : (whole : ℕ) (digits : List ℕ) (less : ℕ) (rest : List ℕ) (piece : Piece) → length digits + less ≡ suc whole → IsUncut whole piece
    → number_before digits rest ≡ piece → number_before digits (take less rest) ≡ piece
unfolding constant_piece
number_after whole digits zero [] piece fits uncut is = is
number_after whole digits (suc less) [] piece fits uncut is = is
number_after whole digits zero (next ∷ more) piece fits uncut is =
    choose (next == 39) (constant_piece digits (take (constant_len more) more)) (Found kind.Number (length digits)) piece
    (λ yes reported. choose (bytes_eq digits (codes "1") && is_bit (take (constant_len more) more))
    (Found kind.Constant (length digits + 1 + length (take (constant_len more) more))) (Broken 0 Unsupported) piece
    (λ bit read. absurd (over (length (take (constant_len more) more)) (subst (IsUncut whole) (sym read) uncut).0))
    (λ other read. absurd (broken_none whole 0 Unsupported piece uncut read)) reported) (λ no reported. reported) is
  where
    over : (len : ℕ) → length digits + 1 + len ≤ suc whole → ⊥
    over len is = omega (arith, fits, is)
number_after whole digits (suc less) (next ∷ more) piece fits uncut is =
    either (next == 39) (constant_piece digits (take (constant_len more) more)) (Found kind.Number (length digits))
    (constant_piece digits (take (constant_len (take less more)) (take less more))) (Found kind.Number (length digits)) piece
    (λ yes reported.
    let within : constant_len more ≤ less =
    choose (bytes_eq digits (codes "1") && is_bit (take (constant_len more) more))
    (Found kind.Constant (length digits + 1 + length (take (constant_len more) more))) (Broken 0 Unsupported) piece
    (λ bit read. fitting (length (take (constant_len more) more)) (length-prefix_len is_constant_byte more) (subst (IsUncut whole) (sym read) uncut).0)
    (λ other read. absurd (broken_none whole 0 Unsupported piece uncut read)) reported in
    ap (constant_piece digits) (run_cut is_constant_byte less more within) ∙ reported) (λ no reported. reported) is
  where
    fitting : (len : ℕ) → len ≡ constant_len more → length digits + 1 + len ≤ suc whole → constant_len more ≤ less
    fitting len same is = omega (arith, fits, same, is)

constant_within : (cut : ℕ) (digits value : List ℕ) (piece : Piece) → IsUncut cut piece → constant_piece digits value ≡ piece
    → length digits ≤ suc cut
unfolding constant_piece
constant_within cut digits value piece uncut reported =
    choose (bytes_eq digits (codes "1") && is_bit value) (Found kind.Constant (length digits + 1 + length value)) (Broken 0 Unsupported) piece
    (λ bit read. fit (length digits) (length value) (subst (IsUncut cut) (sym read) uncut).0)
    (λ other read. absurd (broken_none cut 0 Unsupported piece uncut read)) reported
  where
    fit : (len more : ℕ) → len + 1 + more ≤ suc cut → len ≤ suc cut
    fit len more is = omega (arith, is)

digits_within : (cut : ℕ) (digits rest : List ℕ) (piece : Piece) → IsUncut cut piece → number_before digits rest ≡ piece → length digits ≤ suc cut
digits_within cut digits [] piece uncut reported = (subst (IsUncut cut) (sym reported) uncut).0
digits_within cut digits (next ∷ more) piece uncut reported =
    choose (next == 39) (constant_piece digits (take (constant_len more) more)) (Found kind.Number (length digits)) piece
    (λ yes read. constant_within cut digits (take (constant_len more) more) piece uncut read)
    (λ no read. (subst (IsUncut cut) (sym read) uncut).0) reported

number_cut : (cut : ℕ) (text : List ℕ) (piece : Piece) → IsUncut cut piece → number_piece text ≡ piece → number_piece (take (suc cut) text) ≡ piece
unfolding number_piece
number_cut cut text piece uncut is =
    let count : length (take (digits_len text) text) ≡ digits_len text = length-prefix_len is_digit text in
    let few : length (take (digits_len text) text) ≤ suc cut =
    digits_within cut (take (digits_len text) text) (drop (digits_len text) text) piece uncut is in
    let within : digits_len text ≤ suc cut = omega (arith, count, few) in
    let same : digits_len (take (suc cut) text) ≡ digits_len text = prefix_cut is_digit (suc cut) text within in
    ap (λ (digits : List ℕ). number_before digits (drop (digits_len (take (suc cut) text)) (take (suc cut) text))) (run_cut is_digit (suc cut) text within)
    ∙ ap (λ (len : ℕ). number_before (take (digits_len text) text) (drop len (take (suc cut) text))) same
    ∙ ap (number_before (take (digits_len text) text)) (drop_take (digits_len text) (suc cut) text)
    ∙ number_after cut (take (digits_len text) text) (suc cut - digits_len text) (drop (digits_len text) text) piece
    (omega (arith, count, within)) uncut is

quote_cut : (cut : ℕ) (more : List ℕ) (piece : Piece) → IsUncut cut piece → quote_piece more ≡ piece → quote_piece (take cut more) ≡ piece
unfolding quote_piece
quote_cut cut [] piece uncut is = absurd (broken_none cut 0 Syntax piece uncut is)
quote_cut cut (byte ∷ more) piece uncut is =
    choose (is_letter byte || is_digit byte) (Broken 0 Unsupported) (Broken 0 Syntax) piece
    (λ yes reported. absurd (broken_none cut 0 Unsupported piece uncut reported)) (λ no reported. absurd (broken_none cut 0 Syntax piece uncut reported)) is

name_cut : (cut : ℕ) (text : List ℕ) (piece : Piece) → IsUncut cut piece → Found kind.Name (name_len text) ≡ piece
    → Found kind.Name (name_len (take (suc cut) text)) ≡ piece
name_cut cut text piece uncut is =
    ap (λ (len : ℕ). Found kind.Name len) (prefix_cut is_name_byte (suc cut) text (subst (IsUncut cut) (sym is) uncut).0) ∙ is

-- the ways of a piece, one after another
abbrev pub after_name : ℕ → List ℕ → Piece
after_name byte rest = cond (is_digit byte) (number_piece (byte ∷ rest)) (sign_piece byte)

abbrev pub after_quote : ℕ → List ℕ → Piece
after_quote byte rest = cond (begins_name byte) (Found kind.Name (name_len (byte ∷ rest))) (after_name byte rest)

abbrev pub after_escaped : ℕ → List ℕ → Piece
after_escaped byte rest = cond (byte == 39) (quote_piece rest) (after_quote byte rest)

abbrev pub after_directive : ℕ → List ℕ → Piece
after_directive byte rest = cond (byte == 92) (escaped_piece rest) (after_escaped byte rest)

abbrev pub after_open : Bool → ℕ → List ℕ → Piece
after_open begins_line byte rest = cond (byte == 96) (directive_piece begins_line rest) (after_directive byte rest)

abbrev pub after_slash : Bool → ℕ → List ℕ → Piece
after_slash begins_line byte rest = cond (byte == 40) (open_piece rest) (after_open begins_line byte rest)

abbrev pub after_white : Bool → ℕ → List ℕ → Piece
after_white begins_line byte rest = cond (byte == 47) (slash_piece rest) (after_slash begins_line byte rest)

-- a piece that ends before the cut is the same there; a `(` needs that no `*` follows before the cut
pub piece_cut : (begins_line : Bool) (cut byte : ℕ) (more : List ℕ) (piece : Piece) → IsUncut cut piece
    → (Found kind.Sign 1 ≡ piece → begins_with 42 more ≡ true → cut ≡ 0) → piece_of begins_line (byte ∷ more) ≡ piece
    → piece_of begins_line (byte ∷ take cut more) ≡ piece
unfolding piece_of
piece_cut begins_line cut byte more piece uncut lone is =
    either (is_white byte) Blank (after_white begins_line byte more) Blank (after_white begins_line byte (take cut more)) piece (λ yes reported. reported)
    (λ no reported. either (byte == 47) (slash_piece more) (after_slash begins_line byte more) (slash_piece (take cut more)) (after_slash begins_line byte (take cut more)) piece
    (λ yes read. slash_cut cut more piece uncut read)
    (λ no read. either (byte == 40) (open_piece more) (after_open begins_line byte more) (open_piece (take cut more)) (after_open begins_line byte (take cut more)) piece
    (λ yes reported. open_cut cut more piece uncut lone reported)
    (λ no reported. either (byte == 96) (directive_piece begins_line more) (after_directive byte more) (directive_piece begins_line (take cut more))
    (after_directive byte (take cut more)) piece (λ yes read. directive_cut begins_line cut more piece uncut read)
    (λ no read. either (byte == 92) (escaped_piece more) (after_escaped byte more) (escaped_piece (take cut more)) (after_escaped byte (take cut more)) piece
    (λ yes reported. escaped_cut cut more piece uncut reported)
    (λ no reported. either (byte == 39) (quote_piece more) (after_quote byte more) (quote_piece (take cut more)) (after_quote byte (take cut more)) piece
    (λ yes read. quote_cut cut more piece uncut read)
    (λ no read. either (begins_name byte) (Found kind.Name (name_len (byte ∷ more))) (after_name byte more)
    (Found kind.Name (name_len (byte ∷ take cut more))) (after_name byte (take cut more)) piece
    (λ yes reported. name_cut cut (byte ∷ more) piece uncut reported)
    (λ no reported. either (is_digit byte) (number_piece (byte ∷ more)) (sign_piece byte) (number_piece (byte ∷ take cut more)) (sign_piece byte) piece
    (λ yes read. number_cut cut (byte ∷ more) piece uncut read) (λ no read. read) reported) read) reported) read) reported) read) reported) is
