-- The statements of a chip's pairs are those of the form.
use Rattle.std.proofs.Common.{◌≡◌, ℕ, zero, suc, ◌+◌, ◌-◌, ◌==◌, ◌<◌, ◌≤◌, ◌^◌, ◌/◌, ◌%◌, Bool, true, false}
use Rattle.std.proofs.Common.{List, [], ◌∷◌, ◌++◌, ◌∙◌, length, map, drop, ap, arith, append_assoc}
use Rattle.std.proofs.Common.{append-nil, length-drop, sym, refl, codes}
use Rattle.std.specs.Prelude.{decimal, replicate, max, if◌then◌else◌}
use Rattle.std.specs.List.{AllByRecursion}
use Rattle.std.proofs.lemmas.Fmt.{decimal_by_steps_wide}
use Rattle.std.proofs.lemmas.List.{length-take-le}
use Rattle.ca_lex.specs.Length.{number_of, with_digit}
use Rattle.ca_lex.proofs.DigitLemmas.{fold_append}
use Rattle.ca_net.specs.declared.trit.Trit.{Trit}
use Rattle.ca_net.specs.declared.trit.Trit.TheVariants.{X}
use Rattle.ca_stil.specs.declared.chip.StilChain.{StilChain}
use Rattle.ca_stil.specs.declared.chip.StilChip.{StilChip}
use Rattle.ca_stil.specs.declared.chip.End.TheVariants as at
use Rattle.ca_stil.specs.Chip as model
use Rattle.ca_stil.specs.Chip.{part, width_of, end_of, ends_of, IsPairOf, AreValuesOf}
use Rattle.ca_stil.specs.Words.{digit_of, level_of, key_text, cell_bits, cell_levels}
use Rattle.ca_stil.specs.Pair.{state_text, states_text, levels_text, all_levels_text, steady_text}
use Rattle.ca_stil.specs.Pair.{vector_text, expected_text, unobserved_text, load_of_text}
use Rattle.ca_stil.specs.Pair.{capture_text, unload_of_text}
use Rattle.ca_stil.specs.Pair.{label_text}
use Rattle.ca_stil_form.specs.Grammar.{text_each, pieces}
use Rattle.ca_stil_form.specs.Frame.{Names, Chain, Frame, longest, load_member, unload_member}
use Rattle.ca_stil_form.specs.Frame.{group_member, key_inputs, key_outputs, quoted}
use Rattle.ca_stil_form.specs.Pattern.{bits_form, levels_form, steady, pair_form}
use Rattle.ca_stil_form.specs.Whole.{numbered, ports_of, chains_of, size_of, frame_of}
use Rattle.ca_stil_form.specs.Value.{group_of, scan_of, values_of, in_chain}

-- a chain, and a chip, as the patterns are made for them
abbrev pub chain_seen : StilChain → Chain
chain_seen chain = record { scan_in = chain.scan_in; scan_out = chain.scan_out; cells = length chain.places }

abbrev pub frame_seen : StilChip → Frame
frame_seen chip =
    record { inputs = length chip.inputs; outputs = length chip.outputs; chains = map chain_seen chip.chains }

abbrev pub count_of : StilChain → List ℕ
count_of chain = decimal (length chain.places)

-- the frame that the text gives is that of the chip
abbrev Reads : ℕ → List ℕ → Type 0
Reads number digits = number_of digits ≡ number

reads_one : (number : ℕ) → number < 10 → Reads number ((48 + number) ∷ [])
reads_one number below = omega arith

reads_more : (number : ℕ) (digits : List ℕ) → 10 ≤ number → Reads (number / 10) digits → Reads number (digits ++ ((48 + number % 10) ∷ []))
reads_more number digits large reads =
    let value : with_digit (number_of digits) (48 + number % 10) ≡ number = omega (arith, reads) in
    fold_append digits ((48 + number % 10) ∷ []) 0 ∙ value

decimal_reads : (number : ℕ) → number < 10 ^ 64 → number_of (decimal number) ≡ number
decimal_reads number below = decimal_by_steps_wide Reads reads_one reads_more number below

-- the chain has no more cells than this
abbrev pub IsUpTo : ℕ → StilChain → Type 0
IsUpTo most chain = length chain.places ≤ most

cells_same : (number most : ℕ) (chains : List StilChain) → AllByRecursion (IsUpTo most) chains → most < 10 ^ 64
    → chains_of (numbered number (ends_of at.In chains) (ends_of at.Out chains)) (map count_of chains) ≡ map chain_seen chains
unfolding numbered chains_of
cells_same number most [] counted small = refl
cells_same number most (chain ∷ chains) counted small =
    let here : number_of (decimal (length chain.places)) ≡ length chain.places =
    decimal_reads (length chain.places) (omega (arith, small, counted.0)) in
    let rest : chains_of (numbered (number + 1) (ends_of at.In chains) (ends_of at.Out chains)) (map count_of chains) ≡ map chain_seen chains =
    cells_same (number + 1) most chains counted.1 small in
    (λ j. record { scan_in = chain.scan_in; scan_out = chain.scan_out; cells = here j } ∷ rest j)

seen_same : (controls : Names) (most : ℕ) (chains : List StilChain) → AllByRecursion (IsUpTo most) chains → most < 10 ^ 64
    → chains_of (ports_of (scan_of controls chains)) (map count_of chains) ≡ map chain_seen chains
unfolding chains_of
seen_same controls most [] counted small = refl
seen_same controls most (chain ∷ chains) counted small = cells_same 0 most (chain ∷ chains) counted small

size_same : (names : Names) → size_of (group_of names) ≡ length names
size_same [] = refl
size_same (name ∷ names) = refl

pub frame_same : (chip : StilChip) (most : ℕ) → AllByRecursion (IsUpTo most) chip.chains → most < 10 ^ 64
    → frame_of (group_of chip.inputs) (group_of chip.outputs) (scan_of chip.controls chip.chains) (map count_of chip.chains) ≡ frame_seen chip
frame_same chip most counted small =
    let inputs = size_same chip.inputs in
    let outputs = size_same chip.outputs in
    let chains = seen_same chip.controls most chip.chains counted small in
    (λ j. record { inputs = inputs j; outputs = outputs j; chains = chains j })

pub longest_same : (chains : List StilChain) → longest (map chain_seen chains) ≡ model.longest chains
unfolding longest model.longest
longest_same [] = refl
longest_same (chain ∷ chains) = ap (max (length chain.places)) (longest_same chains)

pub all_up_to : (chains : List StilChain) (most : ℕ) → model.longest chains ≤ most → AllByRecursion (IsUpTo most) chains
unfolding model.longest
all_up_to [] most below = tt
all_up_to (chain ∷ chains) most below = (omega (arith, below), all_up_to chains most (omega (arith, below)))

-- the words of the chains
states_same : (most : ℕ) (values : List Bool) (chains : List StilChain)
    → text_each (λ member. (bits_form member).text) (map (load_member most) (map chain_seen chains)) (map (in_chain false values) chains)
    ≡ states_text most values chains
unfolding text_each states_text state_text key_text cell_bits
states_same most values [] = refl
states_same most values (chain ∷ chains) = ap (λ (text : List ℕ). state_text most values chain ++ text) (states_same most values chains)

levels_same : (most : ℕ) (values : List Trit) (chains : List StilChain)
    → text_each (λ member. (levels_form member).text) (map (unload_member most) (map chain_seen chains)) (map (in_chain X values) chains)
    ≡ all_levels_text most values chains
unfolding text_each all_levels_text levels_text key_text cell_levels
levels_same most values [] = refl
levels_same most values (chain ∷ chains) = ap (λ (text : List ℕ). levels_text most values chain ++ text) (levels_same most values chains)

filled : (letter most count : ℕ) → count ≤ most → replicate (most - count + count) letter ≡ replicate most letter
filled letter most count below = ap (λ (n : ℕ). replicate n letter) (omega (arith, below))

one_steady : (most letter : ℕ) (name rest : List ℕ) (count : ℕ) → count ≤ most
    → ((codes " " ++ (quoted name ++ codes "=")) ++ (replicate (most - count + count) letter ++ codes ";")) ++ rest
    ≡ (key_text name ++ (replicate most letter ++ codes ";")) ++ rest
unfolding key_text
one_steady most letter name rest count below =
    ap (λ (word : List ℕ). (key_text name ++ (word ++ codes ";")) ++ rest) (filled letter most count below)

loads_steady : (letter most : ℕ) (chains : List StilChain) → AllByRecursion (IsUpTo most) chains
    → (pieces (steady letter) (map (load_member most) (map chain_seen chains))).text ≡ steady_text letter at.In most chains
unfolding pieces steady_text
loads_steady letter most [] below = refl
loads_steady letter most (chain ∷ chains) below =
    let count : ℕ = length chain.places in
    let rest : List ℕ = steady_text letter at.In most chains in
    ap (λ (text : List ℕ). (steady letter (load_member most (chain_seen chain))).text ++ text) (loads_steady letter most chains below.1)
    ∙ one_steady most letter chain.scan_in rest count below.0

unloads_steady : (letter most : ℕ) (chains : List StilChain) → AllByRecursion (IsUpTo most) chains
    → (pieces (steady letter) (map (unload_member most) (map chain_seen chains))).text ≡ steady_text letter at.Out most chains
unfolding pieces steady_text
unloads_steady letter most [] below = refl
unloads_steady letter most (chain ∷ chains) below =
    let count : ℕ = length chain.places in
    let rest : List ℕ = steady_text letter at.Out most chains in
    ap (λ (text : List ℕ). (steady letter (unload_member most (chain_seen chain))).text ++ text) (unloads_steady letter most chains below.1)
    ∙ one_steady most letter chain.scan_out rest count below.0

some : (count : ℕ) → (count == 0) ≡ false → 1 ≤ count
some zero is = absurd cc
some (suc count) is = omega arith

-- the words of the ports
unobserved_same : (count : ℕ) → (pieces (steady 88) (group_member key_outputs count)).text ≡ unobserved_text count
unfolding pieces unobserved_text
unobserved_same count = by (count == 0)
  where
    by : (test : Bool) → (pieces (steady 88) (if test then [] else record { key = key_outputs; used = count; filled = 0 } ∷ [])).text
        ≡ (if test then [] else codes " \"_po_\"=" ++ (replicate count 88 ++ codes ";"))
    by true = refl
    by false =
        append-nil (codes " \"_po_\"=" ++ (replicate (0 + count) 88 ++ codes ";"))
        ∙ ap (λ (n : ℕ). codes " \"_po_\"=" ++ (replicate n 88 ++ codes ";")) (omega arith)

vector_word : (count : ℕ) (bits : List Bool) → 1 ≤ length bits
    → text_each (λ member. (bits_form member).text) (record { key = key_inputs; used = count; filled = 0 } ∷ []) (values_of bits)
    ≡ codes " \"_pi_\"=" ++ (map digit_of bits ++ codes ";")
unfolding text_each
vector_word count [] long = absurd (omega (arith, long))
vector_word count (bit ∷ bits) long = append-nil (codes " \"_pi_\"=" ++ (map digit_of (bit ∷ bits) ++ codes ";"))

vector_same : (count : ℕ) (bits : List Bool) → length bits ≡ count
    → text_each (λ member. (bits_form member).text) (group_member key_inputs count) (values_of bits) ≡ vector_text count bits
unfolding text_each vector_text
vector_same count bits long = by (count == 0) refl
  where
    by : (test : Bool) → (count == 0) ≡ test
        → text_each (λ member. (bits_form member).text) (if test then [] else record { key = key_inputs; used = count; filled = 0 } ∷ []) (values_of bits)
        ≡ (if test then [] else codes " \"_pi_\"=" ++ (map digit_of bits ++ codes ";"))
    by true is = refl
    by false is = vector_word count bits (omega (arith, long, some count is))

expected_word : (count : ℕ) (values : List Trit) → 1 ≤ length values
    → text_each (λ member. (levels_form member).text) (record { key = key_outputs; used = count; filled = 0 } ∷ []) (values_of values)
    ≡ codes " \"_po_\"=" ++ (map level_of values ++ codes ";")
unfolding text_each
expected_word count [] long = absurd (omega (arith, long))
expected_word count (value ∷ values) long =
    append-nil (codes " \"_po_\"=" ++ ((map level_of (value ∷ values) ++ []) ++ codes ";"))
    ∙ ap (λ (text : List ℕ). codes " \"_po_\"=" ++ (text ++ codes ";")) (append-nil (map level_of (value ∷ values)))

expected_same : (count : ℕ) (values : List Trit) → length values ≡ count
    → text_each (λ member. (levels_form member).text) (group_member key_outputs count) (values_of values) ≡ expected_text count values
unfolding text_each expected_text
expected_same count values long = by (count == 0) refl
  where
    by : (test : Bool) → (count == 0) ≡ test
        → text_each (λ member. (levels_form member).text) (if test then [] else record { key = key_outputs; used = count; filled = 0 } ∷ []) (values_of values)
        ≡ (if test then [] else codes " \"_po_\"=" ++ (map level_of values ++ codes ";"))
    by true is = refl
    by false is = expected_word count values (omega (arith, long, some count is))

long_part : {Value : Type 0} (from count : ℕ) (values : List Value) → from + count ≤ length values → length (part from count values) ≡ count
long_part from count values long = length-take-le count (drop from values) (omega (arith, length-drop from values))

-- the two statements, regrouped
flat_two : (i q k v a u n b e z : List ℕ)
    → (i ++ (q ++ (k ++ v))) ++ (a ++ ((u ++ (n ++ (i ++ v))) ++ (b ++ (e ++ (n ++ z)))))
    ≡ i ++ ((q ++ k) ++ (((v ++ a) ++ (u ++ n)) ++ (i ++ (((v ++ b) ++ (e ++ n)) ++ z))))
flat_two i q k v a u n b e z =
    let all : List ℕ = i ++ (q ++ (k ++ (v ++ (a ++ (u ++ (n ++ (i ++ (v ++ (b ++ (e ++ (n ++ z))))))))))) in
    let one : (i ++ (q ++ (k ++ v))) ++ (a ++ ((u ++ (n ++ (i ++ v))) ++ (b ++ (e ++ (n ++ z))))) ≡ all =
    simp append_assoc in
    let other : i ++ ((q ++ k) ++ (((v ++ a) ++ (u ++ n)) ++ (i ++ (((v ++ b) ++ (e ++ n)) ++ z)))) ≡ all =
    simp append_assoc in
    one ∙ sym other

-- the six statements, regrouped
flat_six : (i q k m s x n v h a u t b e w y l : List ℕ)
    → (i ++ (q ++ (k ++ m))) ++ (s ++ ((x ++ (n ++ (i ++ (v ++ h)))) ++ (a ++ ((u ++ (n ++ (i ++ m))) ++ (t ++ ((x ++ (n ++ (i ++ (v ++ h)))) ++ (b ++ (e ++ ((n ++ (w ++ (u ++ (n ++ (i ++ (m ++ y)))))) ++ (l ++ n))))))))))
    ≡ i ++ ((q ++ k) ++ ((((m ++ (s ++ (x ++ (n ++ i)))) ++ (v ++ (h ++ a))) ++ (u ++ n)) ++ (i ++ ((((m ++ (t ++ (x ++ (n ++ i)))) ++ (v ++ (h ++ b))) ++ (e ++ n)) ++ ((w ++ (u ++ n)) ++ ((i ++ m) ++ (y ++ (l ++ n))))))))
flat_six i q k m s x n v h a u t b e w y l =
    let all : List ℕ = i ++ (q ++ (k ++ (m ++ (s ++ (x ++ (n ++ (i ++ (v ++ (h ++ (a ++ (u ++ (n ++ (i ++ (m ++ (t ++ (x ++ (n ++ (i ++ (v ++ (h ++ (b ++ (e ++ (n ++ (w ++ (u ++ (n ++ (i ++ (m ++ (y ++ (l ++ n)))))))))))))))))))))))))))))) in
    let one : (i ++ (q ++ (k ++ m))) ++ (s ++ ((x ++ (n ++ (i ++ (v ++ h)))) ++ (a ++ ((u ++ (n ++ (i ++ m))) ++ (t ++ ((x ++ (n ++ (i ++ (v ++ h)))) ++ (b ++ (e ++ ((n ++ (w ++ (u ++ (n ++ (i ++ (m ++ y)))))) ++ (l ++ n)))))))))) ≡ all =
    simp append_assoc in
    let other : i ++ ((q ++ k) ++ ((((m ++ (s ++ (x ++ (n ++ i)))) ++ (v ++ (h ++ a))) ++ (u ++ n)) ++ (i ++ ((((m ++ (t ++ (x ++ (n ++ i)))) ++ (v ++ (h ++ b))) ++ (e ++ n)) ++ ((w ++ (u ++ n)) ++ ((i ++ m) ++ (y ++ (l ++ n)))))))) ≡ all =
    simp append_assoc in
    one ∙ sym other

-- the statements of a pair of a chip without chains
pub pair_two : (inputs outputs scans number : ℕ) (pair : List Bool) (expected : List Trit)
    → length pair ≡ inputs + scans + (inputs + scans) → length expected ≡ outputs + scans
    → (pair_form (record { inputs = inputs; outputs = outputs; chains = [] }) number).text (
      [],
      (
        values_of (part 0 inputs pair),
        (
          [],
          (
            values_of (part (inputs + scans) inputs pair),
            (values_of (part 0 outputs expected), []),
          ),
        ),
      ),
    )
    ≡ codes "  " ++ (label_text number
    ++ (((codes "V {" ++ vector_text inputs (part 0 inputs pair)) ++ (unobserved_text outputs ++ codes " }\n"))
    ++ (codes "  " ++ (((codes "V {" ++ vector_text inputs (part (inputs + scans) inputs pair))
    ++ (expected_text outputs (part 0 outputs expected) ++ codes " }\n")) ++ []))))
unfolding label_text pieces text_each
pair_two inputs outputs scans number pair expected pair_long expected_long =
    let first = vector_same inputs (part 0 inputs pair) (long_part 0 inputs pair (omega (arith, pair_long))) in
    let last = vector_same inputs (part (inputs + scans) inputs pair) (long_part (inputs + scans) inputs pair (omega (arith, pair_long))) in
    let due = expected_same outputs (part 0 outputs expected) (long_part 0 outputs expected (omega (arith, expected_long))) in
    let open_text = unobserved_same outputs in
    let name : List ℕ = quoted (codes "pair " ++ decimal number) in
    (λ j. (codes "  " ++ (name ++ (codes ": " ++ codes "V {"))) ++ (first j ++ ((open_text j ++ (codes " }\n" ++ (codes "  " ++ codes "V {"))) ++ (last j ++ (due j ++ (codes " }\n" ++ []))))))
    ∙ flat_two (codes "  ") name (codes ": ") (codes "V {") (first 1) (open_text 1) (codes " }\n") (last 1) (due 1) []

-- the statements of a pair of a chip with these chains
pub pair_six : (inputs outputs scans number : ℕ) (chain : StilChain) (others : List StilChain) (pair : List Bool) (expected : List Trit)
    → AllByRecursion (IsUpTo (longest (map chain_seen (chain ∷ others)))) (chain ∷ others)
    → length pair ≡ inputs + scans + (inputs + scans) → length expected ≡ outputs + scans
    → (pair_form (record { inputs = inputs; outputs = outputs; chains = map chain_seen (chain ∷ others) }) number).text (
      map (in_chain false (part inputs scans pair)) (chain ∷ others),
      (
        values_of (part 0 inputs pair),
        (
          map (in_chain false (part (inputs + scans + inputs) scans pair)) (chain ∷ others),
          (
            values_of (part (inputs + scans) inputs pair),
            (
              values_of (part 0 outputs expected),
              map (in_chain X (part outputs scans expected)) (chain ∷ others),
            ),
          ),
        ),
      ),
    )
    ≡ codes "  " ++ (label_text number
    ++ (((load_of_text (longest (map chain_seen (chain ∷ others))) (part inputs scans pair) (chain ∷ others)
    ++ (codes "V {" ++ (codes " \"_ctl_\"=000;" ++ vector_text inputs (part 0 inputs pair))))
    ++ (unobserved_text outputs ++ codes " }\n"))
    ++ (codes "  " ++ (((load_of_text (longest (map chain_seen (chain ∷ others))) (part (inputs + scans + inputs) scans pair) (chain ∷ others)
    ++ (codes "V {" ++ (codes " \"_ctl_\"=000;" ++ vector_text inputs (part (inputs + scans) inputs pair))))
    ++ (expected_text outputs (part 0 outputs expected) ++ codes " }\n"))
    ++ (capture_text outputs
    ++ unload_of_text (longest (map chain_seen (chain ∷ others))) (part outputs scans expected) (chain ∷ others))))))
unfolding label_text load_of_text unload_of_text capture_text
pair_six inputs outputs scans number chain others pair expected below pair_long expected_long =
    let chains : List StilChain = chain ∷ others in
    let most : ℕ = longest (map chain_seen chains) in
    let first = vector_same inputs (part 0 inputs pair) (long_part 0 inputs pair (omega (arith, pair_long))) in
    let last = vector_same inputs (part (inputs + scans) inputs pair) (long_part (inputs + scans) inputs pair (omega (arith, pair_long))) in
    let due = expected_same outputs (part 0 outputs expected) (long_part 0 outputs expected (omega (arith, expected_long))) in
    let open_text = unobserved_same outputs in
    let name : List ℕ = quoted (codes "pair " ++ decimal number) in
    let one = states_same most (part inputs scans pair) chains in
    let two = states_same most (part (inputs + scans + inputs) scans pair) chains in
    let unseen = unloads_steady 88 most chains below in
    let zeros = loads_steady 48 most chains below in
    let captured = levels_same most (part outputs scans expected) chains in
    let begins : List ℕ = codes "Macro \"_shift_\" {" in
    let held : List ℕ = codes " \"_ctl_\"=000;" in
    let capture : List ℕ = codes "  V { \"_ctl_\"=0P1;" in
    let close : List ℕ = codes " }\n" in
    (λ j. (codes "  " ++ (name ++ (codes ": " ++ begins))) ++ (one j ++ ((unseen j ++ (close ++ (codes "  " ++ (codes "V {" ++ held)))) ++ (first j ++ ((open_text j ++ (close ++ (codes "  " ++ begins))) ++ (two j ++ ((unseen j ++ (close ++ (codes "  " ++ (codes "V {" ++ held)))) ++ (last j ++ (due j ++ ((close ++ (capture ++ (open_text j ++ (close ++ (codes "  " ++ (begins ++ zeros j)))))) ++ (captured j ++ close)))))))))))
    ∙ flat_six (codes "  ") name (codes ": ") begins (one 1) (unseen 1) close (codes "V {") held (first 1) (open_text 1) (two 1) (last 1) (due 1) capture (zeros 1) (captured 1)
