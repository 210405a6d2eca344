-- Lines that were written, as they are read.
use Rattle.std.proofs.Common.{◌≡◌, ℕ, ◌+◌, Bool, true, false, cond, eqb, List, [], ◌∷◌, ◌++◌, map, take, drop}
use Rattle.std.proofs.Common.{Result, Ok, Err, refl, ap, ◌∙◌, arith, append_assoc, codes}
use Rattle.std.specs.List.{flat_map, AllByRecursion, prefix_len}
use Rattle.std.specs.Str.{str_eq_ignore_ascii_case}
use Rattle.std.proofs.lemmas.List.{append-nil}
use Rattle.std.proofs.lemmas.Bool.Decides.{nat_tests}
use Rattle.ca_lex.specs.declared.lines.Line.{Line}
use Rattle.ca_lex.specs.Words.{is_blank, word_len, with_byte, words_of, upper_case}
use Rattle.ca_lex.specs.Physical.{lines_of, is_pin_info, without_comment, Physical, Nothing, Continuation}
use Rattle.ca_lex.specs.Physical.{PinInfo, Card, card_of, physical_at, physical_of}
use Rattle.ca_lex.specs.Lines.{continued, logical_from}
use Rattle.ca_lex.specs.FirstFault.{steps_from}
use Rattle.ca_spice.specs.declared.fault.SpiceFault.{SpiceFault}
use Rattle.ca_spice.specs.Names.{is_text_byte, is_text}
use Rattle.ca_spice.specs.Reading.{Reading, Step, words_step, line_step, at_line, lines_from}
use Rattle.ca_spice.specs.Writing.{spaced, line_of}
use Rattle.ca_spice.proofs.PinLemmas.{left_true, right_true}
use Rattle.ca_spice.proofs.SpelledLemmas.{HasNoComment, IsSpelled, alone, all_code, upper-chunks}
use Rattle.ca_cell.specs.declared.strength.StrengthTable.{StrengthTable}
use Rattle.ca_spice.proofs.SpelledLemmas.{words_of-chunks, shown_chunks}

-- a piece of a line between two spaces
pub record IsChunk (chunk : List ℕ) : Type 0 where
  pub shown : HasNoComment true chunk
  pub text : is_text chunk ≡ true

pub chunk_of : (word : List ℕ) → IsSpelled word → IsChunk word
chunk_of word is = record { shown = is.shown; text = is.text }

pub chunks_of : (words : List (List ℕ)) → AllByRecursion IsSpelled words → AllByRecursion IsChunk words
chunks_of [] all = tt
chunks_of (word ∷ words) all = (chunk_of word all.0, chunks_of words all.1)

-- a line without its line feed
abbrev pub body : List ℕ → List (List ℕ) → List ℕ
body first chunks = first ++ flat_map spaced chunks

chunks_shown : (chunks : List (List ℕ)) → AllByRecursion IsChunk chunks → AllByRecursion (HasNoComment true) chunks
chunks_shown [] all = tt
chunks_shown (chunk ∷ chunks) all = (all.0.shown, chunks_shown chunks all.1)

pub body_shown : (first : List ℕ) (chunks : List (List ℕ)) → IsChunk first → AllByRecursion IsChunk chunks → HasNoComment true (body first chunks)
body_shown first chunks is all = shown_chunks first chunks is.shown (chunks_shown chunks all)

no_feed : (byte : ℕ) → is_text_byte byte ≡ true → eqb byte 10 ≡ false
no_feed byte text = grind (arith, nat_tests)

-- a text without a line feed, before a text
abbrev in_front : List ℕ → List (List ℕ) → List (List ℕ)
in_front [] lines = lines
in_front (byte ∷ text) lines = with_byte byte (in_front text lines)

lines_after : (text more : List ℕ) → is_text text ≡ true → lines_of (text ++ more) ≡ in_front text (lines_of more)
unfolding lines_of
lines_after [] more are = refl
lines_after (byte ∷ text) more are =
    ap (λ (x : Bool). cond x ([] ∷ lines_of (text ++ more)) (with_byte byte (lines_of (text ++ more)))) (no_feed byte (left_true (is_text_byte byte) (is_text text) are))
    ∙ ap (with_byte byte) (lines_after text more (right_true (is_text_byte byte) (is_text text) are))

in_front-first : (text line : List ℕ) (lines : List (List ℕ)) → in_front text (line ∷ lines) ≡ (text ++ line) ∷ lines
in_front-first [] line lines = refl
in_front-first (byte ∷ text) line lines = ap (with_byte byte) (in_front-first text line lines)

feed : (more : List ℕ) → lines_of (10 ∷ more) ≡ [] ∷ lines_of more
unfolding lines_of
feed more = refl

space : (text : List ℕ) (line : List ℕ) (lines : List (List ℕ)) → lines_of text ≡ line ∷ lines → lines_of (32 ∷ text) ≡ (32 ∷ line) ∷ lines
unfolding lines_of
space text line lines is = ap (with_byte 32) is

chunks_line : (chunks : List (List ℕ)) (more : List ℕ) → AllByRecursion IsChunk chunks → lines_of (flat_map spaced chunks ++ 10 ∷ more) ≡ flat_map spaced chunks ∷ lines_of more
chunks_line [] more all = feed more
chunks_line (chunk ∷ chunks) more all =
    ap (λ (text : List ℕ). lines_of (32 ∷ text)) (append_assoc chunk (flat_map spaced chunks) (10 ∷ more))
    ∙ space (chunk ++ (flat_map spaced chunks ++ 10 ∷ more)) (chunk ++ flat_map spaced chunks) (lines_of more)
    (lines_after chunk (flat_map spaced chunks ++ 10 ∷ more) all.0.text
    ∙ ap (in_front chunk) (chunks_line chunks more all.1) ∙ in_front-first chunk (flat_map spaced chunks) (lines_of more))

-- the first line of a text that begins with a line of chunks
pub first_line : (first : List ℕ) (chunks : List (List ℕ)) (more : List ℕ) → IsChunk first → AllByRecursion IsChunk chunks
    → lines_of (line_of first chunks ++ more) ≡ body first chunks ∷ lines_of more
first_line first chunks more is all =
    ap lines_of (append_assoc first (flat_map spaced chunks ++ codes "\n") more
    ∙ ap (λ (text : List ℕ). first ++ text) (append_assoc (flat_map spaced chunks) (codes "\n") more))
    ∙ lines_after first (flat_map spaced chunks ++ 10 ∷ more) is.text
    ∙ ap (in_front first) (chunks_line chunks more all) ∙ in_front-first first (flat_map spaced chunks) (lines_of more)

-- the words of a line, chunk by chunk
pub line_words : (first : List ℕ) (chunks : List (List ℕ)) → words_of (upper_case (body first chunks)) ≡ words_of (upper_case first) ++ flat_map (λ chunk. words_of (upper_case chunk)) chunks
line_words first chunks =
    ap words_of (upper-chunks first chunks) ∙ words_of-chunks (upper_case first) (map upper_case chunks)
    ∙ ap (λ (words : List (List ℕ)). words_of (upper_case first) ++ words) (each chunks)
  where
    each : (chunks : List (List ℕ)) → flat_map words_of (map upper_case chunks) ≡ flat_map (λ chunk. words_of (upper_case chunk)) chunks
    each [] = refl
    each (chunk ∷ chunks) = ap (λ (words : List (List ℕ)). words_of (upper_case chunk) ++ words) (each chunks)

pub spelled_alone : (word : List ℕ) → IsSpelled word → words_of (upper_case word) ≡ word ∷ []
spelled_alone word is = ap words_of is.upper ∙ alone word is.one

pub spelled_words : (words : List (List ℕ)) → AllByRecursion IsSpelled words → flat_map (λ chunk. words_of (upper_case chunk)) words ≡ words
spelled_words [] all = refl
spelled_words (word ∷ words) all = λ j. spelled_alone word all.0 j ++ spelled_words words all.1 j

-- a line that begins a card
pub card_line : (byte : ℕ) (more : List ℕ) → is_blank byte ≡ false → eqb byte 42 ≡ false → eqb byte 43 ≡ false → HasNoComment true (byte ∷ more)
    → physical_of (byte ∷ more) ≡ Card (byte ∷ more)
unfolding physical_at card_of
card_line byte more blank star plus shown =
    ap (λ (x : Bool). physical_at (drop (cond x (1 + prefix_len is_blank more) 0) (byte ∷ more))) blank
    ∙ ap (λ (x : Bool). cond x (cond (is_pin_info (byte ∷ more)) (PinInfo (without_comment (byte ∷ more))) Nothing) (cond (eqb byte 43) (Continuation (without_comment more)) (card_of (without_comment (byte ∷ more))))) star
    ∙ ap (λ (x : Bool). cond x (Continuation (without_comment more)) (card_of (without_comment (byte ∷ more)))) plus
    ∙ ap card_of (all_code (byte ∷ more) shown)

-- no word goes on where a space follows
no_more : (chunks : List (List ℕ)) → word_len (flat_map spaced chunks) ≡ 0
no_more [] = refl
no_more (chunk ∷ chunks) = refl

is_roles : (chunks : List (List ℕ)) → is_pin_info (codes "*.PININFO" ++ flat_map spaced chunks) ≡ true
unfolding is_pin_info
is_roles chunks =
    ap (λ (len : ℕ). str_eq_ignore_ascii_case (take (1 + (1 + (1 + (1 + (1 + (1 + (1 + (1 + (1 + len))))))))) (codes "*.PININFO" ++ flat_map spaced chunks)) (codes "*.PININFO")) (no_more chunks)

-- the line of the roles
pub roles_line : (chunks : List (List ℕ)) → HasNoComment true (codes "*.PININFO" ++ flat_map spaced chunks)
    → physical_of (codes "*.PININFO" ++ flat_map spaced chunks) ≡ PinInfo (codes "*.PININFO" ++ flat_map spaced chunks)
unfolding physical_at
roles_line chunks shown =
    ap (λ (x : Bool). cond x (PinInfo (without_comment (codes "*.PININFO" ++ flat_map spaced chunks))) Nothing) (is_roles chunks)
    ∙ ap PinInfo (all_code (codes "*.PININFO" ++ flat_map spaced chunks) shown)

-- what a text makes of a reading, from this line on
abbrev pub read_on : (table : StrengthTable) → Reading → ℕ → Bool → List ℕ → Result Reading SpiceFault
read_on table reading number follows text = lines_from table reading (logical_from number follows (map physical_of (lines_of text)))

-- the text continues no card
abbrev pub BeginsAnew : List ℕ → Type 0
BeginsAnew text = continued (map physical_of (lines_of text)) ≡ []

pub anew_at_card : (text line : List ℕ) (lines : List (List ℕ)) → lines_of text ≡ line ∷ lines → physical_of line ≡ Card line → BeginsAnew text
unfolding continued
anew_at_card text line lines first is =
    ap (λ (all : List (List ℕ)). continued (map physical_of all)) first ∙ ap (λ (kind : Physical). continued (kind ∷ map physical_of lines)) is

pub anew_at_roles : (text line : List ℕ) (lines : List (List ℕ)) → lines_of text ≡ line ∷ lines → physical_of line ≡ PinInfo line → BeginsAnew text
unfolding continued
anew_at_roles text line lines first is =
    ap (λ (all : List (List ℕ)). continued (map physical_of all)) first ∙ ap (λ (kind : Physical). continued (kind ∷ map physical_of lines)) is

-- a logical line that is read without a fault
line_first : (table : StrengthTable) → (number : ℕ) (line : List ℕ) (lines : List Line) (reading next : Reading) → words_step table number (words_of (upper_case line)) reading ≡ Ok next
    → lines_from table reading (record { line = number; text = line } ∷ lines) ≡ lines_from table next lines
unfolding steps_from line_step
line_first table number line lines reading next read =
    ap (λ (step : Step). elim (elim step as (λ _. Result Reading SpiceFault) [ Ok later ↦ Ok later | Err kind ↦ Err (at_line (record { line = number; text = line }) kind) ])
    as (λ _. Result Reading SpiceFault) [ Ok later ↦ lines_from table later lines | Err fault ↦ Err fault ]) read

card_first : (number : ℕ) (follows : Bool) (line : List ℕ) (more : List Physical) → continued more ≡ []
    → logical_from number follows (Card line ∷ more) ≡ record { line = number; text = line } ∷ logical_from (number + 1) true more
unfolding logical_from
card_first number true line more anew =
    ap (λ (text : List ℕ). record { line = number; text = text } ∷ logical_from (number + 1) true more) (ap (λ (rest : List ℕ). line ++ rest) anew ∙ append-nil line)
card_first number false line more anew =
    ap (λ (text : List ℕ). record { line = number; text = text } ∷ logical_from (number + 1) true more) (ap (λ (rest : List ℕ). line ++ rest) anew ∙ append-nil line)

roles_first : (number : ℕ) (follows : Bool) (line : List ℕ) (more : List Physical)
    → logical_from number follows (PinInfo line ∷ more) ≡ record { line = number; text = line } ∷ logical_from (number + 1) false more
unfolding logical_from
roles_first number true line more = refl
roles_first number false line more = refl

-- a card that is read without a fault
pub card_read : (table : StrengthTable) → (reading next : Reading) (number : ℕ) (follows : Bool) (text line rest : List ℕ) → lines_of text ≡ line ∷ lines_of rest → physical_of line ≡ Card line
    → BeginsAnew rest → words_step table number (words_of (upper_case line)) reading ≡ Ok next → read_on table reading number follows text ≡ read_on table next (number + 1) true rest
card_read table reading next number follows text line rest first is anew read =
    ap (λ (lines : List (List ℕ)). lines_from table reading (logical_from number follows (map physical_of lines))) first
    ∙ ap (λ (kind : Physical). lines_from table reading (logical_from number follows (kind ∷ map physical_of (lines_of rest)))) is
    ∙ ap (lines_from table reading) (card_first number follows line (map physical_of (lines_of rest)) anew)
    ∙ line_first table number line (logical_from (number + 1) true (map physical_of (lines_of rest))) reading next read

-- and a line of roles
pub roles_read : (table : StrengthTable) → (reading next : Reading) (number : ℕ) (follows : Bool) (text line rest : List ℕ) → lines_of text ≡ line ∷ lines_of rest → physical_of line ≡ PinInfo line
    → words_step table number (words_of (upper_case line)) reading ≡ Ok next → read_on table reading number follows text ≡ read_on table next (number + 1) false rest
roles_read table reading next number follows text line rest first is read =
    ap (λ (lines : List (List ℕ)). lines_from table reading (logical_from number follows (map physical_of lines))) first
    ∙ ap (λ (kind : Physical). lines_from table reading (logical_from number follows (kind ∷ map physical_of (lines_of rest)))) is
    ∙ ap (lines_from table reading) (roles_first number follows line (map physical_of (lines_of rest)))
    ∙ line_first table number line (logical_from (number + 1) false (map physical_of (lines_of rest))) reading next read
