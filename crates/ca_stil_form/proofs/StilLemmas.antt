-- The form of a STIL text is exact: it is built of exact forms.
use Rattle.std.proofs.Common.{◌≡◌, ℕ, ◌+◌, ◌==◌, Bool, true, false, not, ◌&&◌, List, [], ◌∷◌, ◌++◌, length}
use Rattle.std.proofs.Common.{map, take, drop, Option, Some, None, refl, sym, ap, ◌∙◌, codes, length-append}
use Rattle.std.proofs.Common.{arith, ◌-◌}
use Rattle.std.specs.Prelude.{replicate}
use Rattle.std.specs.List.{list_all}
use Rattle.std.specs.Str.{bytes_eq}
use Rattle.std.proofs.lemmas.Bool.{eq-eqb, eqb-true}
use Rattle.std.proofs.lemmas.List.{length-replicate, length-map}
use Rattle.std.proofs.Math.Seq.{drop-append_seam, take-append_seam}
use Rattle.ca_net.specs.declared.trit.Trit.{Trit}
use Rattle.ca_net.specs.declared.trit.Trit.TheVariants.{Zero, One, X}
use Rattle.ca_stil_form.specs.Form.{Token, all_allowed, written_maybe}
use Rattle.ca_stil_form.specs.code.Form.{BeginsOther}
use Rattle.ca_stil_form.specs.Grammar.{fixed, blank, token, ◌<>◌, word, following, before}
use Rattle.ca_stil_form.specs.code.Grammar.{IsExactForm}
use Rattle.ca_stil_form.specs.Frame.{Signal, Names, Scan, Frame, Member, is_name, quoted, group_word}
use Rattle.ca_stil_form.specs.Frame.{quoted_from, names_of, is_group, is_among, fits_in_order, fits_in_number}
use Rattle.ca_stil_form.specs.Frame.{all_in, has_some, group_member, load_members, unload_members, key_inputs}
use Rattle.ca_stil_form.specs.Frame.{key_outputs, key_controls}
use Rattle.ca_stil_form.specs.Pattern.{digit_of, level_of, level_at, bits_word, bits_in, levels_word}
use Rattle.ca_stil_form.specs.Pattern.{levels_in, member_begins, bits_form, levels_form, pair_form}
use Rattle.ca_stil_form.specs.Pattern.{pair_begins, load_ends, first_ends, last_ends, unload_ends}
use Rattle.ca_stil_form.specs.Whole.{name_in, name_form, direction_word, direction_form, signal_form}
use Rattle.ca_stil_form.specs.Whole.{group_form, scan_form, Ports, ports_of, is_count, chain_begins}
use Rattle.ca_stil_form.specs.Whole.{chain_ends, chain_form, frame_of, timing, pattern_begins, Rest}
use Rattle.ca_stil_form.specs.Whole.{rest_form, scan_part, outputs_part, inputs_part, stil_form}
use Rattle.ca_stil_form.proofs.FormLemmas.{left_true, right_true}
use Rattle.ca_stil_form.proofs.GrammarLemmas.{word_exact, and_then_exact, after_exact, before_exact}
use Rattle.ca_stil_form.proofs.GrammarLemmas.{items_until_exact, for_each_exact, form_maybe_exact}
use Rattle.ca_stil_form.proofs.NameLemmas.{group_found, group_named, first_fits, each_fits, names_named}
use Rattle.ca_stil_form.proofs.NameLemmas.{one_for_each}

-- bits and expected values
bits_back : (bits : List Bool) → map (λ byte. byte == 49) (map digit_of bits) ≡ bits
bits_back [] = refl
bits_back (true ∷ bits) = ap (λ (rest : List Bool). true ∷ rest) (bits_back bits)
bits_back (false ∷ bits) = ap (λ (rest : List Bool). false ∷ rest) (bits_back bits)

levels_back : (levels : List Trit) → map level_at (map level_of levels) ≡ levels
levels_back [] = refl
levels_back (Zero ∷ levels) = ap (λ (rest : List Trit). Zero ∷ rest) (levels_back levels)
levels_back (One ∷ levels) = ap (λ (rest : List Trit). One ∷ rest) (levels_back levels)
levels_back (X ∷ levels) = ap (λ (rest : List Trit). X ∷ rest) (levels_back levels)

bits_found : (member : Member) (bits : List Bool) → bits_in member (bits_word member bits) ≡ bits
bits_found member bits =
    let zeros : List ℕ = replicate member.filled 48 in
    let cut : drop member.filled (zeros ++ map digit_of bits) ≡ map digit_of bits =
    ap (λ (n : ℕ). drop n (zeros ++ map digit_of bits)) (sym (length-replicate member.filled 48)) ∙ drop-append_seam zeros (map digit_of bits) in
    ap (map (λ (byte : ℕ). byte == 49)) cut ∙ bits_back bits

levels_found : (member : Member) (levels : List Trit) → (length levels == member.used) ≡ true → levels_in member (levels_word member levels) ≡ levels
levels_found member levels is =
    let letters : List ℕ = map level_of levels in
    let counted : member.used ≡ length letters = sym (length-map levels level_of ∙ eqb-true (length levels) member.used is) in
    ap (map level_at) (ap (λ (n : ℕ). take n (letters ++ replicate member.filled 88)) counted ∙ take-append_seam letters (replicate member.filled 88))
    ∙ levels_back levels

pub bits_exact : (member : Member) → IsExactForm (bits_form member)
bits_exact member = after_exact (member_begins member) _
    (before_exact _ (fixed (codes ";"))
    (word_exact (λ bits. length bits == member.used) (bits_word member) (bits_in member) (replicate member.used false)
    (eq-eqb (length (replicate member.used false)) member.used (length-replicate member.used false)) (λ bits is. bits_found member bits)))

pub levels_exact : (member : Member) → IsExactForm (levels_form member)
levels_exact member = after_exact (member_begins member) _
    (before_exact _ (fixed (codes ";"))
    (word_exact (λ levels. length levels == member.used) (levels_word member) (levels_in member) (replicate member.used X)
    (eq-eqb (length (replicate member.used X)) member.used (length-replicate member.used X)) (λ levels is. levels_found member levels is)))

pub pair_exact : (frame : Frame) (number : ℕ) → IsExactForm (pair_form frame number)
pair_exact frame number =
    after_exact (pair_begins frame number) _ (and_then_exact _ _ (for_each_exact bits_form bits_exact (load_members frame.chains)) (λ first_state is.
    after_exact (load_ends frame.chains) _ (and_then_exact _ _ (for_each_exact bits_form bits_exact (group_member key_inputs frame.inputs)) (λ first is.
    after_exact (first_ends frame) _ (and_then_exact _ _ (for_each_exact bits_form bits_exact (load_members frame.chains)) (λ last_state is.
    after_exact (load_ends frame.chains) _ (and_then_exact _ _ (for_each_exact bits_form bits_exact (group_member key_inputs frame.inputs)) (λ last is.
    and_then_exact _ _ (for_each_exact levels_form levels_exact (group_member key_outputs frame.outputs)) (λ expected is.
    after_exact (last_ends frame) _ (before_exact _ (unload_ends frame.chains) (for_each_exact levels_form levels_exact (unload_members frame.chains))))))))))))

-- names, directions and groups
inner_name : (name : List ℕ) → name_in (quoted name) ≡ name
inner_name name =
    let counted : length (quoted name) - 2 ≡ length name = omega (arith, length-append name (34 ∷ [])) in
    ap (λ (n : ℕ). take n (name ++ 34 ∷ [])) counted ∙ take-append_seam name (34 ∷ [])

name_exact : IsExactForm name_form
name_exact = word_exact is_name quoted name_in (codes "a") refl (λ name is. inner_name name)

direction_exact : IsExactForm direction_form
direction_exact = word_exact (λ input. true) direction_word (bytes_eq (codes "In")) true refl (λ input is. by input)
  where
    by : (input : Bool) → bytes_eq (codes "In") (direction_word input) ≡ input
    by true = refl
    by false = refl

pub signal_exact : IsExactForm signal_form
signal_exact = after_exact (blank (codes "  ")) _ (and_then_exact name_form (λ name. following (blank (codes " ")) (before direction_form (fixed (codes ";\n")))) name_exact
    (λ name is. after_exact (blank (codes " ")) _ (before_exact direction_form (fixed (codes ";\n")) direction_exact)))

group_exact : (key : Token) (fits : Names → Bool) (some : Names) → fits some ≡ true → ((names : Names) → fits names ≡ true → is_group names ≡ true)
    → IsExactForm (group_form key fits)
group_exact key fits some is named = after_exact (blank (codes "  ") <> token key <> fixed (codes "=")) _
    (before_exact _ (fixed (codes ";\n"))
    (word_exact fits group_word (quoted_from None) some is (λ names given. group_found names (group_named names (named names given)))))

ordered_exact : (key : Token) (pool : Names) → (length pool == 0) ≡ false → list_all is_name pool ≡ true → IsExactForm (group_form key (fits_in_order pool))
ordered_exact key [] some named = absurd cc
ordered_exact key (name ∷ names) some named =
    group_exact key (fits_in_order (name ∷ names)) (name ∷ []) (first_fits name names (left_true (is_name name) (list_all is_name names) named))
    (λ group is. left_true (is_group group) (is_among group (name ∷ names)) is)

counted_exact : (key : Token) (pool others : Names) → (length pool == 0) ≡ false → list_all is_name pool ≡ true → (length others == 0) ≡ false
    → IsExactForm (group_form key (fits_in_number (length others) pool))
counted_exact key [] others some named there = absurd cc
counted_exact key (name ∷ names) others some named there =
    group_exact key (fits_in_number (length others) (name ∷ names)) (one_for_each name others)
    (each_fits name names others (left_true (is_name name) (list_all is_name names) named) there)
    (λ group is. left_true (is_group group) ((length group == length others) && all_in (name ∷ names) group) is)

not_false : (test : Bool) → not test ≡ true → test ≡ false
not_false true is = absurd cc
not_false false is = refl

scan_exact : (signals : List Signal) → list_all (λ (signal : Signal). is_name signal.0) signals ≡ true
    → (has_some true signals && has_some false signals) ≡ true → IsExactForm (scan_form signals)
scan_exact signals named possible =
    let ins : (length (names_of true signals) == 0) ≡ false = not_false (length (names_of true signals) == 0) (left_true (has_some true signals) (has_some false signals) possible) in
    let outs : (length (names_of false signals) == 0) ≡ false = not_false (length (names_of false signals) == 0) (right_true (has_some true signals) (has_some false signals) possible) in
    and_then_exact _ _ (counted_exact key_controls (names_of true signals) ([] ∷ [] ∷ [] ∷ []) ins (names_named true signals named) refl) (λ controls is.
    and_then_exact _ _ (ordered_exact (codes "\"_si_\"") (names_of true signals) ins (names_named true signals named)) (λ scan_ins scan_ins_fit.
    counted_exact (codes "\"_so_\"") (names_of false signals) scan_ins outs (names_named false signals named)
    (not_false (length scan_ins == 0) (left_true (not (length scan_ins == 0)) (list_all is_name scan_ins) (left_true (is_group scan_ins) (is_among scan_ins (names_of true signals)) scan_ins_fit)))))

-- chains
count_exact : IsExactForm (word is_count (λ digits. digits) (λ token. token))
count_exact = word_exact is_count (λ digits. digits) (λ token. token) (codes "1") refl (λ digits is. refl)

chain_exact : (ports : Ports) → IsExactForm (chain_form ports)
chain_exact ports = after_exact (chain_begins ports) _ (before_exact _ (chain_ends ports) count_exact)

rest_exact : (inputs outputs : Option Names) (scan : Option Scan) → IsExactForm (rest_form inputs outputs scan)
rest_exact inputs outputs scan =
    after_exact (timing inputs outputs scan) _ (and_then_exact _ _ (for_each_exact chain_form chain_exact (ports_of scan)) (λ cells is.
    after_exact (pattern_begins scan) _ (items_until_exact (codes "}") (codes "}\n") (pair_form (frame_of inputs outputs scan cells))
    (pair_exact (frame_of inputs outputs scan cells)) (λ number value given. refl) 0)))

-- signals that a text has are named
signals_named : (number : ℕ) (signals : List Signal) → all_allowed (λ (number : ℕ). signal_form.allowed) number signals ≡ true
    → list_all (λ (signal : Signal). is_name signal.0) signals ≡ true
unfolding all_allowed
signals_named number [] is = refl
signals_named number (signal ∷ signals) is =
    let here = left_true (signal_form.allowed signal) (all_allowed (λ (number : ℕ). signal_form.allowed) (number + 1) signals) is in
    let later = signals_named (number + 1) signals (right_true (signal_form.allowed signal) (all_allowed (λ (number : ℕ). signal_form.allowed) (number + 1) signals) is) in
    λ j. left_true (is_name signal.0) true here j && later j

abbrev scan_written : (inputs outputs : Option Names) → Option Scan → Rest → List Token
scan_written inputs outputs scan rest = written_maybe (scan_form []).written (λ (scan : Option Scan). (rest_form inputs outputs scan).written) scan rest

-- what follows the outputs begins neither with their key nor with the key of the inputs
scan_apart : (inputs outputs : Option Names) (scan : Option Scan) (rest : Rest)
    → BeginsOther key_outputs (scan_written inputs outputs scan rest) × BeginsOther key_inputs (scan_written inputs outputs scan rest)
scan_apart inputs outputs None rest = (refl, refl)
scan_apart inputs outputs (Some scan) rest = (refl, refl)

outputs_apart : (signals : List Signal) (inputs outputs : Option Names) (scan : Option Scan) (rest : Rest)
    → BeginsOther key_inputs ((outputs_part signals inputs).written (outputs, (scan, rest)))
outputs_apart signals inputs None scan rest = (scan_apart inputs None scan rest).1
outputs_apart signals inputs (Some outputs) scan rest = refl

scan_part_exact : (signals : List Signal) → list_all (λ (signal : Signal). is_name signal.0) signals ≡ true → (inputs outputs : Option Names)
    → IsExactForm (scan_part signals inputs outputs)
scan_part_exact signals named inputs outputs =
    form_maybe_exact (has_some true signals && has_some false signals) key_controls (scan_form signals) (rest_form inputs outputs)
    (λ possible. scan_exact signals named possible) (λ scan fits. refl) (rest_exact inputs outputs None) (λ scan possible fits. rest_exact inputs outputs (Some scan))
    (λ rest is. refl)

outputs_part_exact : (signals : List Signal) → list_all (λ (signal : Signal). is_name signal.0) signals ≡ true → (inputs : Option Names)
    → IsExactForm (outputs_part signals inputs)
outputs_part_exact signals named inputs =
    form_maybe_exact (has_some false signals) key_outputs (group_form key_outputs (fits_in_order (names_of false signals))) (scan_part signals inputs)
    (λ possible. ordered_exact key_outputs (names_of false signals) (not_false (length (names_of false signals) == 0) possible) (names_named false signals named))
    (λ names fits. refl) (scan_part_exact signals named inputs None) (λ names possible fits. scan_part_exact signals named inputs (Some names))
    (λ both is. (scan_apart inputs None both.0 both.1).0)

inputs_part_exact : (signals : List Signal) → list_all (λ (signal : Signal). is_name signal.0) signals ≡ true → IsExactForm (inputs_part signals)
inputs_part_exact signals named =
    form_maybe_exact (has_some true signals) key_inputs (group_form key_inputs (fits_in_order (names_of true signals))) (outputs_part signals)
    (λ possible. ordered_exact key_inputs (names_of true signals) (not_false (length (names_of true signals) == 0) possible) (names_named true signals named))
    (λ names fits. refl) (outputs_part_exact signals named None) (λ names possible fits. outputs_part_exact signals named (Some names))
    (λ both is. outputs_apart signals None both.0 both.1.0 both.1.1)

pub stil_exact : IsExactForm stil_form
stil_exact =
    after_exact (fixed (codes "STIL 1.0;\nSignals {\n")) _ (and_then_exact _ _
    (items_until_exact (codes "}") (codes "}\n") (λ number. signal_form) (λ number. signal_exact) (λ number signal is. refl) 0) (λ signals is.
    after_exact (fixed (codes "SignalGroups {\n")) _ (inputs_part_exact signals (signals_named 0 signals is))))
