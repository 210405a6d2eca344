-- The text of a STIL value spells its tokens.
use Rattle.std.proofs.Common.{◌≡◌, ℕ, zero, suc, ◌+◌, ◌/◌, ◌%◌, ◌<◌, ◌≤◌, ◌==◌, Bool, true, false, not, ◌&&◌}
use Rattle.std.proofs.Common.{List, [], ◌∷◌, ◌++◌, length, map, Option, Some, None, refl, ap, ◌∙◌, arith}
use Rattle.std.proofs.Common.{length-append, codes}
use Rattle.std.specs.Prelude.{if◌then◌else◌, replicate, decimal, nat_lt, fold}
use Rattle.std.specs.Fmt.{digits, digits_onto, digit_glyph}
use Rattle.std.specs.List.{list_all, AllByRecursion}
use Rattle.std.specs.Str.{bytes_eq}
use Rattle.std.proofs.lemmas.Bool.{eqb-true}
use Rattle.std.proofs.lemmas.Bool.Decides.{nat_tests}
use Rattle.std.proofs.lemmas.List.{length-replicate, length-map}
use Rattle.std.proofs.lemmas.List.Folds.{list_all-append}
use Rattle.ca_net.specs.declared.trit.Trit.{Trit}
use Rattle.ca_net.specs.declared.trit.Trit.TheVariants.{Zero, One, X}
use Rattle.ca_lex.specs.Length.{is_digit, number_of, with_digit}
use Rattle.ca_stil_form.specs.Form.{Token, all_each}
use Rattle.ca_stil_form.specs.Tokens.{is_inside}
use Rattle.ca_stil_form.specs.Grammar.{fixed, blank, token, ◌<>◌, pieces, following, before}
use Rattle.ca_stil_form.specs.Frame.{Signal, Names, Scan, Chain, Frame, Member, is_name, quoted, group_word}
use Rattle.ca_stil_form.specs.Frame.{quoted_from, names_of, is_group, is_among, fits_in_order, fits_in_number}
use Rattle.ca_stil_form.specs.Frame.{all_in, has_some, group_member, load_members, unload_members}
use Rattle.ca_stil_form.specs.Frame.{load_member, unload_member, longest, key_inputs, key_outputs}
use Rattle.ca_stil_form.specs.Frame.{key_controls}
use Rattle.ca_stil_form.specs.Pattern.{digit_of, level_of, bits_word, bits_in, levels_word, levels_in}
use Rattle.ca_stil_form.specs.Pattern.{member_begins, bits_form, levels_form, steady, shift_begins}
use Rattle.ca_stil_form.specs.Pattern.{first_begins, pair_begins, load_ends, first_ends, capture, last_ends}
use Rattle.ca_stil_form.specs.Pattern.{unload_ends, pair_form}
use Rattle.ca_stil_form.specs.Whole.{name_in, name_form, direction_word, direction_form, signal_form}
use Rattle.ca_stil_form.specs.Whole.{group_form, scan_form, Ports, numbered, ports_of, is_count, chain_begins}
use Rattle.ca_stil_form.specs.Whole.{chain_ends, chain_form, chains_of, frame_of, input_waves, output_waves}
use Rattle.ca_stil_form.specs.Whole.{scan_waves, chains_begin, chains_end, timing, shifted, macro}
use Rattle.ca_stil_form.specs.Whole.{pattern_begins, rest_form, scan_part, outputs_part, inputs_part}
use Rattle.ca_stil_form.specs.Whole.{stil_form}
use Rattle.ca_stil_form.proofs.FormLemmas.{left_true, right_true}
use Rattle.ca_stil_form.proofs.NameLemmas.{group_named}
use Rattle.ca_stil_form.proofs.SpellLemmas.{Spells, whole_spells, is_no_quote, quoted_spells, name_spells}
use Rattle.ca_stil_form.proofs.SpellLemmas.{group_spells, IsWord, word_spells}
use Rattle.ca_stil_form.proofs.SpelledLemmas.{IsPiece, IsSpelled, fixed_piece, blank_piece, token_piece}
use Rattle.ca_stil_form.proofs.SpelledLemmas.{nothing_piece, both_pieces, each_piece, and_then_spelled}
use Rattle.ca_stil_form.proofs.SpelledLemmas.{after_spelled, before_spelled, word_spelled, token_spelled}
use Rattle.ca_stil_form.proofs.SpelledLemmas.{items_spelled, each_spelled, maybe_spelled}

-- words of letters that may be in words
all_replicate : (count letter : ℕ) → is_inside letter ≡ true → list_all is_inside (replicate count letter) ≡ true
all_replicate zero letter is = refl
all_replicate (suc count) letter is = λ j. is j && all_replicate count letter is j

all_digits : (bits : List Bool) → list_all is_inside (map digit_of bits) ≡ true
all_digits [] = refl
all_digits (true ∷ bits) = all_digits bits
all_digits (false ∷ bits) = all_digits bits

all_levels : (levels : List Trit) → list_all is_inside (map level_of levels) ≡ true
all_levels [] = refl
all_levels (Zero ∷ levels) = all_levels levels
all_levels (One ∷ levels) = all_levels levels
all_levels (X ∷ levels) = all_levels levels

both_inside : (one other : List ℕ) → list_all is_inside one ≡ true → list_all is_inside other ≡ true → list_all is_inside (one ++ other) ≡ true
both_inside one other first second = list_all-append is_inside one other ∙ (λ j. first j && second j)

-- members
record IsMember (member : Member) : Type 0 where
  pub key : Spells member.key (member.key ∷ [])
  pub some : 1 ≤ member.used

member_piece : (member : Member) → IsMember member → IsPiece (member_begins member)
member_piece member is = both_pieces (blank (codes " ")) (token member.key <> fixed (codes "=")) (blank_piece (codes " ") refl refl)
    (both_pieces (token member.key) (fixed (codes "=")) (token_piece member.key is.key) (fixed_piece (codes "=") refl))

bits_spelled : (member : Member) → IsMember member → IsSpelled (bits_form member)
bits_spelled member is = after_spelled (member_begins member) _ (member_piece member is)
    (word_spelled (λ bits. length bits == member.used) (bits_word member) (bits_in member) (fixed (codes ";")) (λ bits counted.
    let count : length bits ≡ member.used = eqb-true (length bits) member.used counted in
    record {
      some = omega (arith, length-append (replicate member.filled 48) (map digit_of bits), length-map bits digit_of, is.some, count);
      inside = both_inside (replicate member.filled 48) (map digit_of bits) (all_replicate member.filled 48 refl) (all_digits bits);
    }) refl (fixed_piece (codes ";") refl))

levels_spelled : (member : Member) → IsMember member → IsSpelled (levels_form member)
levels_spelled member is = after_spelled (member_begins member) _ (member_piece member is)
    (word_spelled (λ levels. length levels == member.used) (levels_word member) (levels_in member) (fixed (codes ";")) (λ levels counted.
    let count : length levels ≡ member.used = eqb-true (length levels) member.used counted in
    record {
      some = omega (arith, length-append (map level_of levels) (replicate member.filled 88), length-map levels level_of, is.some, count);
      inside = both_inside (map level_of levels) (replicate member.filled 88) (all_levels levels) (all_replicate member.filled 88 refl);
    }) refl (fixed_piece (codes ";") refl))

steady_piece : (letter : ℕ) → is_inside letter ≡ true → (member : Member) → IsMember member → IsPiece (steady letter member)
steady_piece letter inside member is =
    let counted : length (replicate (member.filled + member.used) letter) ≡ member.filled + member.used = length-replicate (member.filled + member.used) letter in
    both_pieces (member_begins member) (token (replicate (member.filled + member.used) letter) <> fixed (codes ";")) (member_piece member is)
    (record {
      spells = word_spells (replicate (member.filled + member.used) letter) (codes ";") (fixed (codes ";")).tokens
          (record { some = omega (arith, counted, is.some); inside = all_replicate (member.filled + member.used) letter inside }) refl
          (fixed_piece (codes ";") refl).spells;
    })

group_members : (key : Token) → Spells key (key ∷ []) → (count : ℕ) → AllByRecursion IsMember (group_member key count)
group_members key spells count = by (count == 0) refl
  where
    by : (test : Bool) → (count == 0) ≡ test
        → AllByRecursion IsMember (if test then [] else (record { key = key; used = count; filled = 0 }) ∷ [])
    by true is = tt
    by false is = (record { key = spells; some = some_of count is }, tt)
      where
        some_of : (count : ℕ) → (count == 0) ≡ false → 1 ≤ count
        some_of zero is = absurd cc
        some_of (suc count) is = omega arith

-- chains whose ports have names, and which have a cell
pub record IsChain (chain : Chain) : Type 0 where
  pub scan_in : is_name chain.scan_in ≡ true
  pub scan_out : is_name chain.scan_out ≡ true
  pub some : 1 ≤ chain.cells

loads : (size : ℕ) (chains : List Chain) → AllByRecursion IsChain chains → AllByRecursion IsMember (map (load_member size) chains)
loads size [] all = tt
loads size (chain ∷ chains) all = (record { key = name_spells chain.scan_in all.0.scan_in; some = all.0.some }, loads size chains all.1)

unloads : (size : ℕ) (chains : List Chain) → AllByRecursion IsChain chains → AllByRecursion IsMember (map (unload_member size) chains)
unloads size [] all = tt
unloads size (chain ∷ chains) all = (record { key = name_spells chain.scan_out all.0.scan_out; some = all.0.some }, unloads size chains all.1)

-- decimal digits have no quote
digit_no_quote : (digit : ℕ) → digit < 10 → is_no_quote (digit_glyph false digit) ≡ true
digit_no_quote digit below = ap (λ (given : ℕ). is_no_quote given) (shown (nat_lt digit 10) (grind (arith, nat_tests))) ∙ grind (arith, nat_tests)
  where
    shown : (test : Bool) → test ≡ true → (if test then 48 + digit else (87 + digit)) ≡ 48 + digit
    shown true is = refl
    shown false is = absurd cc

digits_no_quote : (count number : ℕ) (more : List ℕ) → list_all is_no_quote more ≡ true → list_all is_no_quote (digits_onto count 10 false number more) ≡ true
digits_no_quote zero number more is = is
digits_no_quote (suc count) number more is =
    by (number / 10 == 0) (λ j. digit_no_quote (number % 10) (omega arith) j && is j) (λ given. digits_no_quote count (number / 10) (digit_glyph false (number % 10) ∷ more) given)
  where
    by : (test : Bool) → list_all is_no_quote (digit_glyph false (number % 10) ∷ more) ≡ true
        → (list_all is_no_quote (digit_glyph false (number % 10) ∷ more) ≡ true → list_all is_no_quote (digits_onto count 10 false (number / 10) (digit_glyph false (number % 10) ∷ more)) ≡ true)
        → list_all is_no_quote (if test then digit_glyph false (number % 10) ∷ more else digits_onto count 10 false (number / 10) (digit_glyph false (number % 10) ∷ more)) ≡ true
    by true here later = here
    by false here later = later here

decimal_no_quote : (number : ℕ) → list_all is_no_quote (decimal number) ≡ true
unfolding digits
decimal_no_quote number = digits_no_quote 64 number [] refl

label_spells : (text : List ℕ) → list_all is_no_quote text ≡ true → (number : ℕ) → Spells (quoted (text ++ decimal number)) (quoted (text ++ decimal number) ∷ [])
label_spells text is number = quoted_spells (text ++ decimal number) (list_all-append is_no_quote text (decimal number) ∙ (λ j. is j && decimal_no_quote number j))

-- the Pattern block
shift_piece : IsPiece shift_begins
shift_piece = fixed_piece (codes "Macro \"_shift_\" {") refl

first_piece : (chains : List Chain) → IsPiece (first_begins chains)
first_piece [] = fixed_piece (codes "V {") refl
first_piece (chain ∷ chains) = shift_piece

load_piece : (chains : List Chain) → AllByRecursion IsChain chains → IsPiece (load_ends chains)
load_piece [] all = nothing_piece
load_piece (chain ∷ chains) all =
    both_pieces (pieces (steady 88) (unload_members (chain ∷ chains))) (fixed (codes " }\n  V { \"_ctl_\"=000;"))
    (each_piece (steady 88) IsMember (steady_piece 88 refl) (unload_members (chain ∷ chains)) (unloads (longest (chain ∷ chains)) (chain ∷ chains) all))
    (fixed_piece (codes " }\n  V { \"_ctl_\"=000;") refl)

pair_piece : (frame : Frame) (number : ℕ) → IsPiece (pair_begins frame number)
pair_piece frame number =
    both_pieces (blank (codes "  ")) (token (quoted (codes "pair " ++ decimal number)) <> fixed (codes ": ") <> first_begins frame.chains) (blank_piece (codes "  ") refl refl)
    (both_pieces (token (quoted (codes "pair " ++ decimal number))) (fixed (codes ": ") <> first_begins frame.chains) (token_piece _ (label_spells (codes "pair ") refl number))
    (both_pieces (fixed (codes ": ")) (first_begins frame.chains) (fixed_piece (codes ": ") refl) (first_piece frame.chains)))

outputs_spell : Spells key_outputs (key_outputs ∷ [])
outputs_spell = whole_spells key_outputs (key_outputs ∷ []) refl refl

inputs_spell : Spells key_inputs (key_inputs ∷ [])
inputs_spell = whole_spells key_inputs (key_inputs ∷ []) refl refl

first_ends_piece : (frame : Frame) → IsPiece (first_ends frame)
first_ends_piece frame =
    both_pieces (pieces (steady 88) (group_member key_outputs frame.outputs)) (fixed (codes " }\n  ") <> first_begins frame.chains)
    (each_piece (steady 88) IsMember (steady_piece 88 refl) (group_member key_outputs frame.outputs) (group_members key_outputs outputs_spell frame.outputs))
    (both_pieces (fixed (codes " }\n  ")) (first_begins frame.chains) (fixed_piece (codes " }\n  ") refl) (first_piece frame.chains))

capture_piece : (outputs : List Member) → AllByRecursion IsMember outputs → (chains : List Chain) → AllByRecursion IsChain chains → IsPiece (capture outputs chains)
capture_piece outputs members [] all = nothing_piece
capture_piece outputs members (chain ∷ chains) all =
    both_pieces (fixed (codes "  V { \"_ctl_\"=0P1;")) (pieces (steady 88) outputs <> fixed (codes " }\n  ") <> shift_begins <> pieces (steady 48) (load_members (chain ∷ chains)))
    (fixed_piece (codes "  V { \"_ctl_\"=0P1;") refl)
    (both_pieces (pieces (steady 88) outputs) (fixed (codes " }\n  ") <> shift_begins <> pieces (steady 48) (load_members (chain ∷ chains)))
    (each_piece (steady 88) IsMember (steady_piece 88 refl) outputs members)
    (both_pieces (fixed (codes " }\n  ")) (shift_begins <> pieces (steady 48) (load_members (chain ∷ chains))) (fixed_piece (codes " }\n  ") refl)
    (both_pieces shift_begins (pieces (steady 48) (load_members (chain ∷ chains))) shift_piece
    (each_piece (steady 48) IsMember (steady_piece 48 refl) (load_members (chain ∷ chains)) (loads (longest (chain ∷ chains)) (chain ∷ chains) all)))))

unload_piece : (chains : List Chain) → IsPiece (unload_ends chains)
unload_piece [] = nothing_piece
unload_piece (chain ∷ chains) = fixed_piece (codes " }\n") refl

pub pair_spelled : (frame : Frame) → AllByRecursion IsChain frame.chains → (number : ℕ) → IsSpelled (pair_form frame number)
pair_spelled frame all number =
    let load = each_spelled bits_form IsMember bits_spelled (load_members frame.chains) (loads (longest frame.chains) frame.chains all) in
    let inputs = each_spelled bits_form IsMember bits_spelled (group_member key_inputs frame.inputs) (group_members key_inputs inputs_spell frame.inputs) in
    after_spelled (pair_begins frame number) _ (pair_piece frame number) (and_then_spelled _ _ load (λ first_state is.
    after_spelled (load_ends frame.chains) _ (load_piece frame.chains all) (and_then_spelled _ _ inputs (λ first is.
    after_spelled (first_ends frame) _ (first_ends_piece frame) (and_then_spelled _ _ load (λ last_state is.
    after_spelled (load_ends frame.chains) _ (load_piece frame.chains all) (and_then_spelled _ _ inputs (λ last is.
    and_then_spelled _ _ (each_spelled levels_form IsMember levels_spelled (group_member key_outputs frame.outputs) (group_members key_outputs outputs_spell frame.outputs)) (λ expected is.
    after_spelled (last_ends frame) _
    (both_pieces (fixed (codes " }\n")) (capture (group_member key_outputs frame.outputs) frame.chains) (fixed_piece (codes " }\n") refl)
    (capture_piece (group_member key_outputs frame.outputs) (group_members key_outputs outputs_spell frame.outputs) frame.chains all))
    (before_spelled _ (unload_ends frame.chains)
    (each_spelled levels_form IsMember levels_spelled (unload_members frame.chains) (unloads (longest frame.chains) frame.chains all))
    (unload_piece frame.chains)))))))))))

-- the ports of a chain have names
record IsPorts (ports : Ports) : Type 0 where
  pub scan_in : is_name ports.scan_in ≡ true
  pub scan_out : is_name ports.scan_out ≡ true

ports_named : (number : ℕ) (scan_ins scan_outs : Names) → list_all is_name scan_ins ≡ true → list_all is_name scan_outs ≡ true
    → AllByRecursion IsPorts (numbered number scan_ins scan_outs)
unfolding numbered
ports_named number [] scan_outs ins outs = tt
ports_named number (scan_in ∷ scan_ins) [] ins outs = tt
ports_named number (scan_in ∷ scan_ins) (scan_out ∷ scan_outs) ins outs = (
  record { scan_in = left_true (is_name scan_in) (list_all is_name scan_ins) ins; scan_out = left_true (is_name scan_out) (list_all is_name scan_outs) outs },
  ports_named (number + 1) scan_ins scan_outs (right_true (is_name scan_in) (list_all is_name scan_ins) ins) (right_true (is_name scan_out) (list_all is_name scan_outs) outs),
)

-- a number of cells is one at least
at_least : (digits : List ℕ) (number : ℕ) → number ≤ fold with_digit number digits
at_least [] number = omega arith
at_least (digit ∷ digits) number = omega (arith, at_least digits (with_digit number digit))

counts_some : (digits : List ℕ) → is_count digits ≡ true → 1 ≤ number_of digits
counts_some [] is = absurd cc
counts_some (digit ∷ digits) is =
    let first : (digit == 48) ≡ false = not_zero (digit == 48) (left_true (not (digit == 48)) (list_all is_digit (digit ∷ digits)) is) in
    let all = right_true (not (digit == 48)) (list_all is_digit (digit ∷ digits)) is in
    let one : 1 ≤ with_digit 0 digit = large digit first (left_true (is_digit digit) (list_all is_digit digits) all) in
    omega (arith, one, at_least digits (with_digit 0 digit))
  where
    not_zero : (test : Bool) → not test ≡ true → test ≡ false
    not_zero true is = absurd cc
    not_zero false is = refl

    large : (digit : ℕ) → (digit == 48) ≡ false → is_digit digit ≡ true → 1 ≤ with_digit 0 digit
    large digit first is = grind (arith, nat_tests)

chains_sound : (ports : List Ports) (cells : List (List ℕ)) → AllByRecursion IsPorts ports → all_each (λ (ports : Ports). is_count) ports cells ≡ true
    → AllByRecursion IsChain (chains_of ports cells)
unfolding chains_of all_each
chains_sound [] cells all is = tt
chains_sound (ports ∷ others) [] all is = tt
chains_sound (ports ∷ others) (digits ∷ cells) all is = (
  record { scan_in = all.0.scan_in; scan_out = all.0.scan_out; some = counts_some digits (left_true (is_count digits) (all_each (λ (ports : Ports). is_count) others cells) is) },
  chains_sound others cells all.1 (right_true (is_count digits) (all_each (λ (ports : Ports). is_count) others cells) is),
)

digits_inside : (digits : List ℕ) → list_all is_digit digits ≡ true → list_all is_inside digits ≡ true
digits_inside [] is = refl
digits_inside (digit ∷ digits) is =
    λ j. inside digit (left_true (is_digit digit) (list_all is_digit digits) is) j && digits_inside digits (right_true (is_digit digit) (list_all is_digit digits) is) j
  where
    inside : (digit : ℕ) → is_digit digit ≡ true → is_inside digit ≡ true
    inside digit is = grind (arith, nat_tests)

count_word : (digits : List ℕ) → is_count digits ≡ true → IsWord digits
count_word [] is = absurd cc
count_word (digit ∷ digits) is = record {
  some = omega arith;
  inside = digits_inside (digit ∷ digits) (right_true (not (digit == 48)) (list_all is_digit (digit ∷ digits)) is);
}

chain_spelled : (ports : Ports) → IsPorts ports → IsSpelled (chain_form ports)
chain_spelled ports is =
    after_spelled (chain_begins ports) _
    (both_pieces (fixed (codes "  ScanChain ")) (token (quoted (codes "chain" ++ decimal ports.number)) <> fixed (codes " {\n    ScanLength ")) (fixed_piece (codes "  ScanChain ") refl)
    (both_pieces (token (quoted (codes "chain" ++ decimal ports.number))) (fixed (codes " {\n    ScanLength ")) (token_piece _ (label_spells (codes "chain") refl ports.number))
    (fixed_piece (codes " {\n    ScanLength ") refl)))
    (word_spelled is_count (λ digits. digits) (λ token. token) (chain_ends ports) count_word refl
    (both_pieces (fixed (codes ";\n    ScanIn ")) (token (quoted ports.scan_in) <> fixed (codes ";\n    ScanOut ") <> token (quoted ports.scan_out) <> fixed (codes ";\n  }\n")) (fixed_piece (codes ";\n    ScanIn ") refl)
    (both_pieces (token (quoted ports.scan_in)) (fixed (codes ";\n    ScanOut ") <> token (quoted ports.scan_out) <> fixed (codes ";\n  }\n")) (token_piece _ (name_spells ports.scan_in is.scan_in))
    (both_pieces (fixed (codes ";\n    ScanOut ")) (token (quoted ports.scan_out) <> fixed (codes ";\n  }\n")) (fixed_piece (codes ";\n    ScanOut ") refl)
    (both_pieces (token (quoted ports.scan_out)) (fixed (codes ";\n  }\n")) (token_piece _ (name_spells ports.scan_out is.scan_out)) (fixed_piece (codes ";\n  }\n") refl))))))

-- the ports of the scan groups have names
abbrev IsNamed : Option Scan → Type 0
IsNamed None = Unit {0}
IsNamed (Some scan) = (list_all is_name scan.1.0 ≡ true) × (list_all is_name scan.1.1 ≡ true)

abbrev NamedAll : Names → Type 0
NamedAll names = AllByRecursion (λ (name : List ℕ). is_name name ≡ true) names

named_all : (names : Names) → list_all is_name names ≡ true → AllByRecursion (λ (name : List ℕ). is_name name ≡ true) names
named_all [] is = tt
named_all (name ∷ names) is = (left_true (is_name name) (list_all is_name names) is, named_all names (right_true (is_name name) (list_all is_name names) is))

all_ports : (scan : Option Scan) → IsNamed scan → AllByRecursion IsPorts (ports_of scan)
all_ports None named = tt
all_ports (Some scan) named = ports_named 0 scan.1.0 scan.1.1 named.0 named.1

input_waves_piece : (inputs : Option Names) → IsPiece (input_waves inputs)
input_waves_piece None = nothing_piece
input_waves_piece (Some names) = fixed_piece (codes "      \"_pi_\" { 01 { '0ns' D/U; } }\n") refl

output_waves_piece : (outputs : Option Names) → IsPiece (output_waves outputs)
output_waves_piece None = nothing_piece
output_waves_piece (Some names) = fixed_piece (codes "      \"_po_\" { LHX { '0ns' X; '90ns' L/H/X; } }\n") refl

scan_waves_piece : (scan : Option Scan) → IsPiece (scan_waves scan)
scan_waves_piece None = nothing_piece
scan_waves_piece (Some scan) =
    both_pieces (fixed (codes "      \"_ctl_\" { 01 { '0ns' D/U; } P { '0ns' D; '45ns' U; '55ns' D; } }\n")) (fixed (codes "      \"_si_\" { 01 { '0ns' D/U; } }\n") <> fixed (codes "      \"_so_\" { LHX { '0ns' X; '40ns' L/H/X; } }\n"))
    (fixed_piece (codes "      \"_ctl_\" { 01 { '0ns' D/U; } P { '0ns' D; '45ns' U; '55ns' D; } }\n") refl)
    (both_pieces (fixed (codes "      \"_si_\" { 01 { '0ns' D/U; } }\n")) (fixed (codes "      \"_so_\" { LHX { '0ns' X; '40ns' L/H/X; } }\n"))
    (fixed_piece (codes "      \"_si_\" { 01 { '0ns' D/U; } }\n") refl) (fixed_piece (codes "      \"_so_\" { LHX { '0ns' X; '40ns' L/H/X; } }\n") refl))

chains_begin_piece : (scan : Option Scan) → IsPiece (chains_begin scan)
chains_begin_piece None = nothing_piece
chains_begin_piece (Some scan) = fixed_piece (codes "ScanStructures {\n") refl

chains_end_piece : (scan : Option Scan) → IsPiece (chains_end scan)
chains_end_piece None = nothing_piece
chains_end_piece (Some scan) = fixed_piece (codes "}\n") refl

timing_piece : (inputs outputs : Option Names) (scan : Option Scan) → IsPiece (timing inputs outputs scan)
timing_piece inputs outputs scan =
    both_pieces (token (codes "}")) _ (token_piece (codes "}") (whole_spells (codes "}") (codes "}" ∷ []) refl refl))
    (both_pieces (fixed (codes "\nTiming {\n  WaveformTable \"_wft_\" {\n    Period '100ns';\n    Waveforms {\n")) _ (fixed_piece (codes "\nTiming {\n  WaveformTable \"_wft_\" {\n    Period '100ns';\n    Waveforms {\n") refl)
    (both_pieces (input_waves inputs) _ (input_waves_piece inputs) (both_pieces (output_waves outputs) _ (output_waves_piece outputs)
    (both_pieces (scan_waves scan) _ (scan_waves_piece scan)
    (both_pieces (fixed (codes "    }\n  }\n}\n")) (chains_begin scan) (fixed_piece (codes "    }\n  }\n}\n") refl) (chains_begin_piece scan))))))

shifted_piece : (name : List ℕ) → is_name name ≡ true → IsPiece (shifted name)
shifted_piece name is = both_pieces (blank (codes " ")) (token (quoted name) <> fixed (codes "=#;")) (blank_piece (codes " ") refl refl)
    (both_pieces (token (quoted name)) (fixed (codes "=#;")) (token_piece (quoted name) (name_spells name is)) (fixed_piece (codes "=#;") refl))

macro_piece : (scan : Option Scan) → IsNamed scan → IsPiece (macro scan)
macro_piece None named = nothing_piece
macro_piece (Some scan) named =
    both_pieces (fixed (codes "MacroDefs {\n  \"_shift_\" {\n    W \"_wft_\";\n    Shift {\n      V { \"_ctl_\"=1P1;")) _
    (fixed_piece (codes "MacroDefs {\n  \"_shift_\" {\n    W \"_wft_\";\n    Shift {\n      V { \"_ctl_\"=1P1;") refl)
    (both_pieces (pieces shifted scan.1.0) _ (each_piece shifted (λ (name : List ℕ). is_name name ≡ true) shifted_piece scan.1.0 (named_all scan.1.0 named.0))
    (both_pieces (pieces shifted scan.1.1) _ (each_piece shifted (λ (name : List ℕ). is_name name ≡ true) shifted_piece scan.1.1 (named_all scan.1.1 named.1))
    (fixed_piece (codes " }\n    }\n  }\n}\n") refl)))

pattern_piece : (scan : Option Scan) → IsNamed scan → IsPiece (pattern_begins scan)
pattern_piece scan named =
    both_pieces (chains_end scan) _ (chains_end_piece scan)
    (both_pieces (fixed (codes "PatternBurst \"_burst_\" {\n  PatList { \"_pattern_\"; }\n}\nPatternExec {\n  PatternBurst \"_burst_\";\n}\n")) _
    (fixed_piece (codes "PatternBurst \"_burst_\" {\n  PatList { \"_pattern_\"; }\n}\nPatternExec {\n  PatternBurst \"_burst_\";\n}\n") refl)
    (both_pieces (macro scan) _ (macro_piece scan named) (fixed_piece (codes "Pattern \"_pattern_\" {\n  W \"_wft_\";\n") refl)))

closing_spells : Spells (codes "}\n") (codes "}" ∷ [])
closing_spells = whole_spells (codes "}\n") (codes "}" ∷ []) refl refl

rest_spelled : (inputs outputs : Option Names) (scan : Option Scan) → IsNamed scan → IsSpelled (rest_form inputs outputs scan)
rest_spelled inputs outputs scan named =
    after_spelled (timing inputs outputs scan) _ (timing_piece inputs outputs scan)
    (and_then_spelled _ _ (each_spelled chain_form IsPorts chain_spelled (ports_of scan) (all_ports scan named)) (λ cells is.
    after_spelled (pattern_begins scan) _ (pattern_piece scan named)
    (items_spelled (codes "}") (codes "}\n") (pair_form (frame_of inputs outputs scan cells)) closing_spells
    (pair_spelled (frame_of inputs outputs scan cells) (chains_sound (ports_of scan) cells (all_ports scan named) is)) 0)))

-- groups and signals
group_spelled : (key : Token) → Spells key (key ∷ []) → (fits : Names → Bool) → ((names : Names) → fits names ≡ true → is_group names ≡ true)
    → IsSpelled (group_form key fits)
group_spelled key spells fits named =
    after_spelled (blank (codes "  ") <> token key <> fixed (codes "=")) _
    (both_pieces (blank (codes "  ")) (token key <> fixed (codes "=")) (blank_piece (codes "  ") refl refl)
    (both_pieces (token key) (fixed (codes "=")) (token_piece key spells) (fixed_piece (codes "=") refl)))
    (before_spelled _ (fixed (codes ";\n")) (token_spelled fits group_word (quoted_from None) (λ names is. group_spells names (group_named names (named names is)))) (fixed_piece (codes ";\n") refl))

ordered_spelled : (key : Token) → Spells key (key ∷ []) → (pool : Names) → IsSpelled (group_form key (fits_in_order pool))
ordered_spelled key spells pool = group_spelled key spells (fits_in_order pool) (λ names is. left_true (is_group names) (is_among names pool) is)

counted_spelled : (key : Token) → Spells key (key ∷ []) → (count : ℕ) (pool : Names) → IsSpelled (group_form key (fits_in_number count pool))
counted_spelled key spells count pool =
    group_spelled key spells (fits_in_number count pool) (λ names is. left_true (is_group names) ((length names == count) && all_in pool names) is)

scan_spelled : (signals : List Signal) → IsSpelled (scan_form signals)
scan_spelled signals =
    and_then_spelled _ _ (counted_spelled key_controls (whole_spells key_controls (key_controls ∷ []) refl refl) 3 (names_of true signals)) (λ controls is.
    and_then_spelled _ _ (ordered_spelled (codes "\"_si_\"") (whole_spells (codes "\"_si_\"") (codes "\"_si_\"" ∷ []) refl refl) (names_of true signals)) (λ scan_ins fits.
    counted_spelled (codes "\"_so_\"") (whole_spells (codes "\"_so_\"") (codes "\"_so_\"" ∷ []) refl refl) (length scan_ins) (names_of false signals)))

scan_named : (signals : List Signal) (scan : Scan) → (scan_form signals).allowed scan ≡ true → IsNamed (Some scan)
scan_named signals scan is =
    let groups = right_true (fits_in_number 3 (names_of true signals) scan.0) _ is in
    let ins = left_true (fits_in_order (names_of true signals) scan.1.0) _ groups in
    let outs = right_true (fits_in_order (names_of true signals) scan.1.0) _ groups in (
      group_named scan.1.0 (left_true (is_group scan.1.0) (is_among scan.1.0 (names_of true signals)) ins),
      group_named scan.1.1 (left_true (is_group scan.1.1) ((length scan.1.1 == length scan.1.0) && all_in (names_of false signals) scan.1.1) outs),
    )

signal_spelled : IsSpelled signal_form
signal_spelled =
    after_spelled (blank (codes "  ")) _ (blank_piece (codes "  ") refl refl)
    (and_then_spelled name_form (λ name. following (blank (codes " ")) (before direction_form (fixed (codes ";\n"))))
    (token_spelled is_name quoted name_in name_spells) (λ name is.
    after_spelled (blank (codes " ")) _ (blank_piece (codes " ") refl refl)
    (word_spelled (λ input. true) direction_word (bytes_eq (codes "In")) (fixed (codes ";\n")) (λ input is. by input) refl (fixed_piece (codes ";\n") refl))))
  where
    by : (input : Bool) → IsWord (direction_word input)
    by true = record { some = omega arith; inside = refl }
    by false = record { some = omega arith; inside = refl }

scan_part_spelled : (signals : List Signal) (inputs outputs : Option Names) → IsSpelled (scan_part signals inputs outputs)
scan_part_spelled signals inputs outputs =
    maybe_spelled (has_some true signals && has_some false signals) key_controls (scan_form signals) (rest_form inputs outputs)
    (scan_spelled signals) (rest_spelled inputs outputs None tt) (λ scan is. rest_spelled inputs outputs (Some scan) (scan_named signals scan is))

outputs_part_spelled : (signals : List Signal) (inputs : Option Names) → IsSpelled (outputs_part signals inputs)
outputs_part_spelled signals inputs =
    maybe_spelled (has_some false signals) key_outputs (group_form key_outputs (fits_in_order (names_of false signals))) (scan_part signals inputs)
    (ordered_spelled key_outputs outputs_spell (names_of false signals)) (scan_part_spelled signals inputs None) (λ names is. scan_part_spelled signals inputs (Some names))

inputs_part_spelled : (signals : List Signal) → IsSpelled (inputs_part signals)
inputs_part_spelled signals =
    maybe_spelled (has_some true signals) key_inputs (group_form key_inputs (fits_in_order (names_of true signals))) (outputs_part signals)
    (ordered_spelled key_inputs inputs_spell (names_of true signals)) (outputs_part_spelled signals None) (λ names is. outputs_part_spelled signals (Some names))

pub stil_spelled : IsSpelled stil_form
stil_spelled =
    after_spelled (fixed (codes "STIL 1.0;\nSignals {\n")) _ (fixed_piece (codes "STIL 1.0;\nSignals {\n") refl) (and_then_spelled _ _
    (items_spelled (codes "}") (codes "}\n") (λ number. signal_form) closing_spells (λ number. signal_spelled) 0) (λ signals is.
    after_spelled (fixed (codes "SignalGroups {\n")) _ (fixed_piece (codes "SignalGroups {\n") refl) (inputs_part_spelled signals)))
