-- Lines of a text, one after the other.
use Rattle.std.proofs.Common.{◌≡◌, ℕ, ◌+◌, ◌-◌, ◌<◌, Bool, true, false, cond, not, eqb, List, [], ◌∷◌, ◌++◌}
use Rattle.std.proofs.Common.{length, map, take, drop, Option, Some, None, arith, refl, sym, ap, ◌∙◌}
use Rattle.std.proofs.Common.{append_assoc}
use Rattle.std.proofs.lemmas.List.{append-nil}
use Rattle.std.proofs.Math.Numerals.{one-add, sub-one}
use Rattle.std.proofs.Math.Seq.{take-length}
use Rattle.ca_lex.specs.declared.lines.Line.{Line}
use Rattle.ca_lex.specs.Words.{with_byte}
use Rattle.ca_lex.specs.Physical.{lines_of, line_len, Physical, Nothing, Continuation, PinInfo, Card}
use Rattle.ca_lex.specs.Physical.{physical_of}
use Rattle.ca_lex.specs.Lines.{continued, logical_from, spice_lines}
use Rattle.ca_lex.specs.code.Joining.{joined, with_last}

-- what follows the line feed
abbrev pub following : List ℕ → List ℕ
following [] = []
following (byte ∷ more) = more

abbrev first_cut : List ℕ → ℕ → List (List ℕ)
first_cut text len = take len text ∷ lines_of (following (drop len text))

one_more_byte : (byte second : ℕ) (more : List ℕ) (feed : Bool) → lines_of (second ∷ more) ≡ first_cut (second ∷ more) (line_len (second ∷ more))
    → cond feed ([] ∷ lines_of (second ∷ more)) (with_byte byte (lines_of (second ∷ more))) ≡ first_cut (byte ∷ second ∷ more) (cond (not feed) (1 + line_len (second ∷ more)) 0)
one_more_byte byte second more true is = refl
one_more_byte byte second more false is = rw (one-add (line_len (second ∷ more))) (ap (with_byte byte) is)

last_byte : (byte : ℕ) (feed : Bool) → cond feed ([] ∷ lines_of []) (with_byte byte (lines_of [])) ≡ first_cut (byte ∷ []) (cond (not feed) (1 + 0) 0)
unfolding lines_of
last_byte byte true = refl
last_byte byte false = refl

pub first_of_lines : (byte : ℕ) (more : List ℕ) → lines_of (byte ∷ more) ≡ first_cut (byte ∷ more) (line_len (byte ∷ more))
unfolding lines_of
first_of_lines byte [] = last_byte byte (eqb byte 10)
first_of_lines byte (second ∷ more) = one_more_byte byte second more (eqb byte 10) (first_of_lines second more)

-- the first line of a text, and what follows its line feed
pub cut_at : (text line rest : List ℕ) → 0 < length text → line ≡ take (line_len text) text → rest ≡ following (drop (line_len text) text) → lines_of text ≡ line ∷ lines_of rest
cut_at [] line rest some is rest_is = absurd (omega arith)
cut_at (byte ∷ more) line rest some is rest_is = rw (is, rest_is) (first_of_lines byte more)

pub nothing_adds : (lines : List Line) (last : Option Line) (number : ℕ) (more : List Physical) → joined lines last (number + 1) more ≡ joined lines last number (Nothing ∷ more)
unfolding joined logical_from continued
nothing_adds lines None number more = refl
nothing_adds lines (Some card) number more = refl

pub more_adds : (lines : List Line) (card : Line) (number : ℕ) (text new : List ℕ) (more : List Physical) → new ≡ (card.text ++ 32 ∷ []) ++ text
    → joined lines (Some (record { line = card.line; text = new })) (number + 1) more ≡ joined lines (Some card) number (Continuation text ∷ more)
unfolding joined logical_from continued
more_adds lines card number text new more is =
    let grouped : new ++ continued more ≡ card.text ++ (32 ∷ (text ++ continued more)) = rw is (simp append_assoc) in
    ap (λ (text : List ℕ). lines ++ record { line = card.line; text = text } ∷ logical_from (number + 1) true more) grouped

pub stray_adds : (lines new : List Line) (number : ℕ) (text : List ℕ) (more : List Physical) → new ≡ lines ++ record { line = number; text = 43 ∷ text } ∷ []
    → joined new None (number + 1) more ≡ joined lines None number (Continuation text ∷ more)
unfolding joined logical_from continued
stray_adds lines new number text more is = rw is (append_assoc lines _ _)

closed_then : (lines : List Line) (last : Option Line) (number : ℕ) (next : Physical) (more : List Physical) (here : List Line)
    → continued (next ∷ more) ≡ [] → logical_from number false (next ∷ more) ≡ here → logical_from number true (next ∷ more) ≡ here
    → joined lines last number (next ∷ more) ≡ with_last lines last ++ here
unfolding joined
closed_then lines None number next more here nothing after_none after_card = ap (λ (following : List Line). lines ++ following) after_none
closed_then lines (Some card) number next more here nothing after_none after_card =
    ap (λ (text : List ℕ). lines ++ record { line = card.line; text = card.text ++ text } ∷ logical_from number true (next ∷ more)) nothing
    ∙ ap (λ (text : List ℕ). lines ++ record { line = card.line; text = text } ∷ logical_from number true (next ∷ more)) (append-nil card.text)
    ∙ ap (λ (following : List Line). lines ++ card ∷ following) after_card ∙ sym (append_assoc lines (card ∷ []) here)

pub info_adds : (lines new : List Line) (last kept : Option Line) (number : ℕ) (text : List ℕ) (more : List Physical)
    → new ≡ with_last lines last ++ record { line = number; text = text } ∷ [] → kept ≡ None
    → joined new kept (number + 1) more ≡ joined lines last number (PinInfo text ∷ more)
unfolding joined logical_from continued
info_adds lines new last kept number text more is rest_is =
    rw (is, rest_is) (append_assoc (with_last lines last) _ _ ∙ sym (closed_then lines last number (PinInfo text) more _ refl refl refl))

pub card_adds : (lines new : List Line) (last : Option Line) (number : ℕ) (text : List ℕ) (more : List Physical)
    → new ≡ with_last lines last → joined new (Some (record { line = number; text = text })) (number + 1) more ≡ joined lines last number (Card text ∷ more)
unfolding joined logical_from continued
card_adds lines new last number text more is = rw is (sym (closed_then lines last number (Card text) more _ refl refl refl))

pub all_joined : (lines : List Line) (last : Option Line) (number : ℕ) → joined lines last number [] ≡ with_last lines last
unfolding joined logical_from continued
all_joined lines None number = append-nil lines
all_joined lines (Some card) number = ap (λ (text : List ℕ). lines ++ record { line = card.line; text = text } ∷ []) (append-nil card.text)

pub after_nothing : (rest : List ℕ) → length rest < 1 → rest ≡ following rest
after_nothing [] short = refl
after_nothing (byte ∷ rest) short = absurd (omega arith)

pub after_feed : (rest : List ℕ) → take (length rest - 1) (drop 1 rest) ≡ following rest
after_feed [] = refl
after_feed (byte ∷ rest) = rw sub-one (take-length rest)

-- nothing is left
pub is_joined : (lines : List Line) (last : Option Line) (number : ℕ) (rest : List ℕ) (total : List Line) → length rest ≡ 0
    → joined lines last number (map physical_of (lines_of rest)) ≡ total → with_last lines last ≡ total
unfolding lines_of
is_joined lines last number [] total is so_far = sym (all_joined lines last number) ∙ so_far
is_joined lines last number (byte ∷ rest) total is so_far = absurd (omega arith)

pub begins : (lines : List Line) (text : List ℕ) → lines ≡ [] → joined lines None 1 (map physical_of (lines_of text)) ≡ spice_lines text
unfolding joined
begins lines text is = rw is refl
