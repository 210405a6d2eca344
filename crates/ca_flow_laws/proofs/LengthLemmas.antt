-- The logical lines of a text, and their words, are no more than a few times its bytes.
use Rattle.std.proofs.Common.{◌≡◌, ℕ, zero, suc, ◌+◌, ◌*◌, ◌≤◌, Bool, true, false, cond, List, [], ◌∷◌, length, map, refl}
use Rattle.std.proofs.Common.{arith, length-append}
use Rattle.std.specs.Prelude.{◌==◌, take, drop}
use Rattle.std.specs.List.{prefix_len}
use Rattle.std.proofs.lemmas.List.{length-map, length-drop}
use Rattle.ca_lex.specs.declared.lines.Line.{Line}
use Rattle.ca_lex.specs.Lines.{continued, logical_from, spice_lines}
use Rattle.ca_lex.specs.Physical.{lines_of, code_len, without_comment, is_pin_info, Physical, Nothing, Continuation, PinInfo, Card}
use Rattle.ca_lex.specs.Physical.{card_of, physical_at, physical_of}
use Rattle.ca_lex.specs.Words.{is_blank, ends_word, with_byte, words_with, words_of, upper_case}

-- a byte before texts makes at most one more
with_byte_length : (byte : ℕ) (texts : List (List ℕ)) → length (with_byte byte texts) ≤ 1 + length texts
with_byte_length byte [] = omega arith
with_byte_length byte (first ∷ others) = omega arith

-- a text has no more words than bytes
pub words_within : (text : List ℕ) → length (words_of text) ≤ length text
unfolding words_of
words_within [] = omega arith
words_within (byte ∷ more) = by (words_within more) (is_blank byte) (byte == 61)
  where
    following : (text : List ℕ) → length (words_with byte text (words_of more)) ≤ 1 + length (words_of more)
    following [] = omega arith
    following (next ∷ rest) = at (ends_word next)
      where
        at : (ends : Bool) → length (cond ends ((byte ∷ []) ∷ words_of more) (with_byte byte (words_of more))) ≤ 1 + length (words_of more)
        at true = omega arith
        at false = with_byte_length byte (words_of more)

    by : length (words_of more) ≤ length more → (blank sign : Bool)
        → length (cond blank (words_of more) (cond sign ((byte ∷ []) ∷ words_of more) (words_with byte more (words_of more)))) ≤ suc (length more)
    by is true sign = omega (arith, is)
    by is false true = omega (arith, is)
    by is false false = let one = following more in omega (arith, is, one)

-- how many bytes texts have
abbrev pub bytes_of : List (List ℕ) → ℕ
bytes_of [] = 0
bytes_of (text ∷ texts) = length text + bytes_of texts

with_byte_bytes : (byte : ℕ) (texts : List (List ℕ)) → bytes_of (with_byte byte texts) ≡ 1 + bytes_of texts
with_byte_bytes byte [] = refl
with_byte_bytes byte (first ∷ others) = omega arith

-- lines have no more bytes than their text, and are no more than these
lines_bytes : (text : List ℕ) → bytes_of (lines_of text) ≤ length text
unfolding lines_of
lines_bytes [] = omega arith
lines_bytes (byte ∷ more) = by (lines_bytes more) (byte == 10)
  where
    by : bytes_of (lines_of more) ≤ length more → (feed : Bool) → bytes_of (cond feed ([] ∷ lines_of more) (with_byte byte (lines_of more))) ≤ suc (length more)
    by is true = omega (arith, is)
    by is false = let one = with_byte_bytes byte (lines_of more) in omega (arith, is, one)

lines_count : (text : List ℕ) → length (lines_of text) ≤ length text
unfolding lines_of
lines_count [] = omega arith
lines_count (byte ∷ more) = by (lines_count more) (byte == 10)
  where
    by : length (lines_of more) ≤ length more → (feed : Bool) → length (cond feed ([] ∷ lines_of more) (with_byte byte (lines_of more))) ≤ suc (length more)
    by is true = omega (arith, is)
    by is false = let one = with_byte_length byte (lines_of more) in omega (arith, is, one)

-- how many bytes a physical line adds to the logical ones
abbrev size_of : Physical → ℕ
size_of Nothing = 0
size_of (Continuation text) = 1 + length text
size_of (PinInfo text) = length text
size_of (Card text) = length text

abbrev sizes_of : List Physical → ℕ
sizes_of [] = 0
sizes_of (line ∷ lines) = size_of line + sizes_of lines

take_within : (n : ℕ) (text : List ℕ) → length (take n text) ≤ length text
take_within zero text = omega arith
take_within (suc n) [] = omega arith
take_within (suc n) (byte ∷ text) = let rest = take_within n text in omega (arith, rest)

drop_within : (n : ℕ) (text : List ℕ) → length (drop n text) ≤ length text
drop_within n text = let count = length-drop n text in omega (arith, count)

card_within : (text : List ℕ) → size_of (card_of text) ≤ length text
unfolding card_of
card_within [] = omega arith
card_within (byte ∷ text) = omega arith

physical_within : (text : List ℕ) → size_of (physical_at text) ≤ length text
unfolding physical_at
physical_within [] = omega arith
physical_within (byte ∷ more) = by (byte == 42) (is_pin_info (byte ∷ more)) (byte == 43)
  where
    whole : length (without_comment (byte ∷ more)) ≤ suc (length more)
    whole = let is = take_within (code_len true (byte ∷ more)) (byte ∷ more) in omega (arith, is)

    rest : length (without_comment more) ≤ length more
    rest = take_within (code_len true more) more

    card : size_of (card_of (without_comment (byte ∷ more))) ≤ suc (length more)
    card = let here = card_within (without_comment (byte ∷ more)) in let all = whole in omega (arith, here, all)

    by : (star info plus : Bool) → size_of (cond star (cond info (PinInfo (without_comment (byte ∷ more))) Nothing)
        (cond plus (Continuation (without_comment more)) (card_of (without_comment (byte ∷ more))))) ≤ suc (length more)
    by true true plus = whole
    by true false plus = omega arith
    by false info true = let is = rest in omega (arith, is)
    by false info false = card

line_within : (line : List ℕ) → size_of (physical_of line) ≤ length line
line_within line =
    let at = physical_within (drop (prefix_len is_blank line) line) in
    let rest = drop_within (prefix_len is_blank line) line in
    omega (arith, at, rest)

physicals_within : (lines : List (List ℕ)) → sizes_of (map physical_of lines) ≤ bytes_of lines
physicals_within [] = omega arith
physicals_within (line ∷ lines) = let here = line_within line in let more = physicals_within lines in omega (arith, here, more)

-- how many bytes logical lines have
abbrev pub texts_of : List Line → ℕ
texts_of [] = 0
texts_of (line ∷ lines) = length line.text + texts_of lines

-- how much logical lines, and what continues the one before them, take of the physical lines
abbrev taken : Bool → List Physical → ℕ
taken true lines = length (continued lines)
taken false lines = 0

logical_within : (number : ℕ) (follows : Bool) (lines : List Physical) → texts_of (logical_from number follows lines) + taken follows lines ≤ sizes_of lines
unfolding logical_from continued
logical_within number true [] = omega arith
logical_within number false [] = omega arith
logical_within number true (Nothing ∷ more) = let rest = logical_within (number + 1) true more in omega (arith, rest)
logical_within number false (Nothing ∷ more) = let rest = logical_within (number + 1) false more in omega (arith, rest)
logical_within number true (Continuation text ∷ more) =
    let rest = logical_within (number + 1) true more in
    let joined = length-append text (continued more) in
    omega (arith, rest, joined)
logical_within number false (Continuation text ∷ more) = let rest = logical_within (number + 1) false more in omega (arith, rest)
logical_within number true (PinInfo text ∷ more) = let rest = logical_within (number + 1) false more in omega (arith, rest)
logical_within number false (PinInfo text ∷ more) = let rest = logical_within (number + 1) false more in omega (arith, rest)
logical_within number true (Card text ∷ more) =
    let rest = logical_within (number + 1) true more in
    let joined = length-append text (continued more) in
    omega (arith, rest, joined)
logical_within number false (Card text ∷ more) =
    let rest = logical_within (number + 1) true more in
    let joined = length-append text (continued more) in
    omega (arith, rest, joined)

logical_count : (number : ℕ) (follows : Bool) (lines : List Physical) → length (logical_from number follows lines) ≤ length lines
unfolding logical_from
logical_count number follows [] = omega arith
logical_count number true (Nothing ∷ more) = let rest = logical_count (number + 1) true more in omega (arith, rest)
logical_count number false (Nothing ∷ more) = let rest = logical_count (number + 1) false more in omega (arith, rest)
logical_count number true (Continuation text ∷ more) = let rest = logical_count (number + 1) true more in omega (arith, rest)
logical_count number false (Continuation text ∷ more) = let rest = logical_count (number + 1) false more in omega (arith, rest)
logical_count number true (PinInfo text ∷ more) = let rest = logical_count (number + 1) false more in omega (arith, rest)
logical_count number false (PinInfo text ∷ more) = let rest = logical_count (number + 1) false more in omega (arith, rest)
logical_count number true (Card text ∷ more) = let rest = logical_count (number + 1) true more in omega (arith, rest)
logical_count number false (Card text ∷ more) = let rest = logical_count (number + 1) true more in omega (arith, rest)

-- what a line may add to the nets and devices of a subcircuit: three, and one for each of its words
abbrev pub weight_of : Line → ℕ
weight_of line = 3 + length (words_of (upper_case line.text))

abbrev pub weights_of : List Line → ℕ
weights_of [] = 0
weights_of (line ∷ lines) = weight_of line + weights_of lines

weights_within : (lines : List Line) → weights_of lines ≤ 3 * length lines + texts_of lines
weights_within [] = omega arith
weights_within (line ∷ lines) =
    let here = words_within (upper_case line.text) in
    let same : length (upper_case line.text) ≡ length line.text = length-map line.text _ in
    let more = weights_within lines in
    omega (arith, here, same, more)

-- the lines of a text add at most four for each of its bytes
pub text_weight : (text : List ℕ) → weights_of (spice_lines text) ≤ 4 * length text
text_weight text =
    let lines = spice_lines text in
    let physicals = map physical_of (lines_of text) in
    let all = weights_within lines in
    let count = logical_count 1 false physicals in
    let size = logical_within 1 false physicals in
    let same : length physicals ≡ length (lines_of text) = length-map (lines_of text) physical_of in
    let few = lines_count text in
    let bytes = lines_bytes text in
    let within = physicals_within (lines_of text) in
    omega (arith, all, count, size, same, few, bytes, within)
