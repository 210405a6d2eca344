-- The form allows the values of a chip with names of the form.
use Rattle.std.proofs.Common.{◌≡◌, ℕ, zero, suc, ◌+◌, ◌==◌, ◌<◌, ◌≤◌, ◌^◌, ◌/◌, ◌%◌, Bool, true, false}
use Rattle.std.proofs.Common.{not, ◌&&◌, ◌||◌, List, [], ◌∷◌, ◌++◌, ◌∙◌, length, map, reverse, ap, arith}
use Rattle.std.proofs.Common.{refl, sym, subst}
use Rattle.std.specs.Prelude.{decimal, get_or, Option, if◌then◌else◌}
use Rattle.std.specs.List.{All, AllByRecursion, list_all, list_any}
use Rattle.std.specs.Str.{bytes_eq}
use Rattle.std.proofs.lemmas.Bool.{eq-eqb, eqb-true, le-leb, ne_eqb}
use Rattle.std.proofs.lemmas.Fmt.{decimal_by_steps_wide}
use Rattle.std.proofs.Common.{drop, length-drop}
use Rattle.std.proofs.lemmas.List.{length-map, length-reverse, length-take-le}
use Rattle.std.proofs.lemmas.Slice.Eq.{bytes_eq-Decides}
use Rattle.ca_lex.specs.Length.{is_digit}
use Rattle.ca_net.specs.declared.trit.Trit.{Trit}
use Rattle.ca_net.specs.declared.trit.Trit.TheVariants.{X}
use Rattle.ca_stil.specs.declared.chip.Signal as code
use Rattle.ca_stil.specs.declared.chip.StilChain.{StilChain}
use Rattle.ca_stil.specs.declared.chip.StilChip.{StilChip}
use Rattle.ca_stil.specs.Chip as model
use Rattle.ca_stil.specs.Chip.{part, width_of, IsPairOf, AreValuesOf, AreOf}
use Rattle.ca_stil_form.specs.Form.{all_allowed, all_each, allowed_maybe}
use Rattle.ca_stil_form.specs.Frame.{Names, Member, Scan, is_name, is_among, all_in}
use Rattle.ca_stil_form.specs.Frame.{fits_in_order, has_some, longest, load_member, unload_member}
use Rattle.ca_stil_form.specs.Frame.{group_member, key_inputs, key_outputs}
use Rattle.ca_stil_form.specs.Pattern.{bits_form, levels_form, pair_form}
use Rattle.ca_stil_form.specs.Whole.{signal_form, is_count, chain_form, numbered, ports_of, frame_of}
use Rattle.ca_stil_form.specs.Whole.{scan_form, rest_form, scan_part, outputs_part, stil_form}
use Rattle.ca_stil_form.specs.Value.{signal_seen, group_of, scan_of, values_of, in_chain, pair_values}
use Rattle.ca_stil_form.specs.Value.{all_values, stil_value}
use Rattle.ca_stil_form.specs.Allowed.{signal_names, HasScanGroupsIfAny, IsNamedChip}
use Rattle.ca_stil_form.proofs.FormLemmas.{left_true, right_true}
use Rattle.ca_stil_form.proofs.NameLemmas.{names_named}
use Rattle.ca_stil_form.proofs.PairTexts.{chain_seen, frame_seen, count_of, IsUpTo, frame_same, longest_same}
use Rattle.ca_stil_form.proofs.PairTexts.{all_up_to}

-- what holds of each holds by recursion
pub by_recursion : {Item : Type 0} (P : Item → Type 0) (items : List Item) → All P items → AllByRecursion P items
by_recursion P [] all = tt
by_recursion P (item ∷ items) all =
    (all 0 item (omega arith), by_recursion P items (λ k other within. all (suc k) other (omega (arith, within))))

-- the signals
signals_allowed : (number : ℕ) (signals : List code.Signal) → AllByRecursion (λ signal. is_name signal.name ≡ true) signals
    → all_allowed (λ (number : ℕ). signal_form.allowed) number (map signal_seen signals) ≡ true
unfolding all_allowed
signals_allowed number [] named = refl
signals_allowed number (signal ∷ signals) named =
    let here = named.0 in
    let later = signals_allowed (number + 1) signals named.1 in
    λ j. (here j && true) && later j

seen_named : (signals : List code.Signal) → AllByRecursion (λ signal. is_name signal.name ≡ true) signals
    → list_all (λ (signal : List ℕ × Bool). is_name signal.0) (map signal_seen signals) ≡ true
seen_named [] named = refl
seen_named (signal ∷ signals) named =
    let here = named.0 in
    let later = seen_named signals named.1 in
    λ j. here j && later j

-- names that are among others in their order, or anywhere, are names as those are
same_named : (name other : List ℕ) → bytes_eq name other ≡ true → is_name other ≡ true → is_name name ≡ true
same_named name other same named = subst (λ (given : List ℕ). is_name given ≡ true) (sym ((bytes_eq-Decides name other).0 same)) named

among_named : (names pool : Names) → list_all is_name pool ≡ true → is_among names pool ≡ true → list_all is_name names ≡ true
unfolding is_among
among_named [] pool named among = refl
among_named (name ∷ names) [] named among = absurd cc
among_named (name ∷ names) (other ∷ pool) named among =
    let here = left_true (is_name other) (list_all is_name pool) named in
    let later = right_true (is_name other) (list_all is_name pool) named in
    by here (bytes_eq name other) refl among (among_named names pool later) (among_named (name ∷ names) pool later)
  where
    by : is_name other ≡ true → (test : Bool) → bytes_eq name other ≡ test
        → elim test [ true ↦ is_among names pool | false ↦ is_among (name ∷ names) pool ] ≡ true
        → (is_among names pool ≡ true → list_all is_name names ≡ true)
        → (is_among (name ∷ names) pool ≡ true → list_all is_name (name ∷ names) ≡ true)
        → list_all is_name (name ∷ names) ≡ true
    by here true is found rest all =
        let one = same_named name other is here in
        let more = rest found in
        λ j. one j && more j
    by here false is found rest all = all found

one_named : (name : List ℕ) (pool : Names) → list_all is_name pool ≡ true → list_any (bytes_eq name) pool ≡ true → is_name name ≡ true
one_named name [] named found = absurd cc
one_named name (other ∷ pool) named found =
    by (bytes_eq name other) refl found (one_named name pool (right_true (is_name other) (list_all is_name pool) named))
  where
    by : (test : Bool) → bytes_eq name other ≡ test → (test || list_any (bytes_eq name) pool) ≡ true
        → (list_any (bytes_eq name) pool ≡ true → is_name name ≡ true) → is_name name ≡ true
    by true is there later = same_named name other is (left_true (is_name other) (list_all is_name pool) named)
    by false is there later = later there

in_named : (names pool : Names) → list_all is_name pool ≡ true → all_in pool names ≡ true → list_all is_name names ≡ true
in_named [] pool named found = refl
in_named (name ∷ names) pool named found =
    let one = one_named name pool named (left_true (list_any (bytes_eq name) pool) (all_in pool names) found) in
    let more = in_named names pool named (right_true (list_any (bytes_eq name) pool) (all_in pool names) found) in
    λ j. one j && more j

-- where a name is, there are some
some_there : (count : ℕ) → not (suc count == 0) ≡ true
some_there count = ap not (ne_eqb (suc count) 0 (λ same. omega (arith, same)))

among_some : (name : List ℕ) (names pool : Names) → is_among (name ∷ names) pool ≡ true → not (length pool == 0) ≡ true
unfolding is_among
among_some name names [] among = absurd cc
among_some name names (other ∷ pool) among = some_there (length pool)

in_some : (name : List ℕ) (pool : Names) → list_any (bytes_eq name) pool ≡ true → not (length pool == 0) ≡ true
in_some name [] found = absurd cc
in_some name (other ∷ pool) found = some_there (length pool)

-- a group of one direction, and what follows it
group_allowed : {Second : Type 0} (pool names : Names) (second : Option Names → Second → Bool) (rest : Second)
    → list_all is_name pool ≡ true → is_among names pool ≡ true → second (group_of names) rest ≡ true
    → allowed_maybe (not (length pool == 0)) (fits_in_order pool) second (group_of names) rest ≡ true
group_allowed pool [] second rest named among is = is
group_allowed pool (name ∷ names) second rest named among is =
    let some = among_some name names pool among in
    let all = among_named (name ∷ names) pool named among in
    let here = some_there (length names) in
    λ j. some j && (((here j && all j) && among j) && is j)

-- numbers of cells
abbrev IsCounted : ℕ → List ℕ → Type 0
IsCounted number digits = 1 ≤ number → is_count digits ≡ true

digit_is : (digit : ℕ) → digit < 10 → is_digit (48 + digit) ≡ true
digit_is digit below =
    let low = le-leb 48 (48 + digit) (omega arith) in
    let high = le-leb (48 + digit) 57 (omega (arith, below)) in
    λ j. low j && high j

not_zero : (digit : ℕ) → 1 ≤ digit → not ((48 + digit) == 48) ≡ true
not_zero digit some = by ((48 + digit) == 48) refl
  where
    by : (test : Bool) → ((48 + digit) == 48) ≡ test → not test ≡ true
    by true is = let same = eqb-true (48 + digit) 48 is in absurd (omega (arith, some, same))
    by false is = refl

counted_one : (number : ℕ) → number < 10 → IsCounted number ((48 + number) ∷ [])
counted_one number below some =
    let first = not_zero number some in
    let digit = digit_is number below in
    λ j. first j && (digit j && true)

digits_more : (digits : List ℕ) (digit : ℕ) → list_all is_digit digits ≡ true → is_digit digit ≡ true
    → list_all is_digit (digits ++ digit ∷ []) ≡ true
digits_more [] digit all is = λ j. is j && true
digits_more (first ∷ digits) digit all is =
    let here = left_true (is_digit first) (list_all is_digit digits) all in
    let more = digits_more digits digit (right_true (is_digit first) (list_all is_digit digits) all) is in
    λ j. here j && more j

count_more : (digits : List ℕ) (digit : ℕ) → is_count digits ≡ true → is_digit digit ≡ true → is_count (digits ++ digit ∷ []) ≡ true
count_more [] digit all is = absurd cc
count_more (first ∷ digits) digit all is =
    let here = left_true (not (first == 48)) (list_all is_digit (first ∷ digits)) all in
    let more = digits_more (first ∷ digits) digit (right_true (not (first == 48)) (list_all is_digit (first ∷ digits)) all) is in
    λ j. here j && more j

counted_more : (number : ℕ) (digits : List ℕ) → 10 ≤ number → IsCounted (number / 10) digits
    → IsCounted number (digits ++ ((48 + number % 10) ∷ []))
counted_more number digits large before some =
    count_more digits (48 + number % 10) (before (omega (arith, large))) (digit_is (number % 10) (omega arith))

decimal_counted : (number : ℕ) → 1 ≤ number → number < 10 ^ 64 → is_count (decimal number) ≡ true
decimal_counted number some below = decimal_by_steps_wide IsCounted counted_one counted_more number below some

abbrev ins : List StilChain → Names
ins chains = map (λ (chain : StilChain). chain.scan_in) chains

abbrev outs : List StilChain → Names
outs chains = map (λ (chain : StilChain). chain.scan_out) chains

abbrev HasCells : StilChain → Type 0
HasCells chain = 1 ≤ length chain.places

cells_allowed : (number most : ℕ) (chains : List StilChain) → AllByRecursion HasCells chains → AllByRecursion (IsUpTo most) chains
    → most < 10 ^ 64
    → all_each (λ ports. (chain_form ports).allowed) (numbered number (ins chains) (outs chains)) (map count_of chains) ≡ true
unfolding all_each numbered
cells_allowed number most [] some below small = refl
cells_allowed number most (chain ∷ chains) some below small =
    let here = decimal_counted (length chain.places) some.0 (omega (arith, small, below.0)) in
    let later = cells_allowed (number + 1) most chains some.1 below.1 small in
    λ j. here j && later j

-- the words of the chains
loads_allowed : (most : ℕ) (values : List Bool) (chains : List StilChain)
    → all_each (λ member. (bits_form member).allowed) (map (load_member most) (map chain_seen chains)) (map (in_chain false values) chains) ≡ true
unfolding all_each
loads_allowed most values [] = refl
loads_allowed most values (chain ∷ chains) =
    let read : List Bool = map (λ place. get_or values place false) chain.places in
    let counted : (length (reverse read) == length chain.places) ≡ true =
    eq-eqb (length (reverse read)) (length chain.places) (length-reverse read ∙ length-map chain.places (λ place. get_or values place false)) in
    let later = loads_allowed most values chains in
    λ j. counted j && later j

unloads_allowed : (most : ℕ) (values : List Trit) (chains : List StilChain)
    → all_each (λ member. (levels_form member).allowed) (map (unload_member most) (map chain_seen chains)) (map (in_chain X values) chains) ≡ true
unfolding all_each
unloads_allowed most values [] = refl
unloads_allowed most values (chain ∷ chains) =
    let read : List Trit = map (λ place. get_or values place X) chain.places in
    let counted : (length (reverse read) == length chain.places) ≡ true =
    eq-eqb (length (reverse read)) (length chain.places) (length-reverse read ∙ length-map chain.places (λ place. get_or values place X)) in
    let later = unloads_allowed most values chains in
    λ j. counted j && later j

-- the words of the ports
no_counted : (count : ℕ) → (count == 0) ≡ false → 1 ≤ count
no_counted zero is = absurd cc
no_counted (suc count) is = omega arith

word_allowed : {Value : Type 0} (allowed : Member → List Value → Bool)
    → ((member : Member) (values : List Value) → length values ≡ member.used → allowed member values ≡ true)
    → (key : List ℕ) (count : ℕ) (values : List Value) → length values ≡ count
    → all_each allowed (group_member key count) (values_of values) ≡ true
unfolding all_each
word_allowed {Value} allowed fits key count values long = by (count == 0) refl values long
  where
    by : (test : Bool) → (count == 0) ≡ test → (values : List Value) → length values ≡ count
        → all_each allowed (if test then [] else record { key = key; used = count; filled = 0 } ∷ []) (values_of values) ≡ true
    by true is [] long = refl
    by true is (value ∷ values) long = let none = eqb-true count 0 is in absurd (omega (arith, long, none))
    by false is [] long = let some = no_counted count is in absurd (omega (arith, long, some))
    by false is (value ∷ values) long =
        let here = fits (record { key = key; used = count; filled = 0 }) (value ∷ values) long in
        λ j. here j && true

bits_allowed : (count : ℕ) (bits : List Bool) → length bits ≡ count
    → all_each (λ member. (bits_form member).allowed) (group_member key_inputs count) (values_of bits) ≡ true
bits_allowed count bits long =
    word_allowed (λ member. (bits_form member).allowed) (λ member values is. eq-eqb (length values) member.used is) key_inputs count bits long

levels_allowed : (count : ℕ) (levels : List Trit) → length levels ≡ count
    → all_each (λ member. (levels_form member).allowed) (group_member key_outputs count) (values_of levels) ≡ true
levels_allowed count levels long =
    word_allowed (λ member. (levels_form member).allowed) (λ member values is. eq-eqb (length values) member.used is) key_outputs count levels long

long_part : {Value : Type 0} (from count : ℕ) (values : List Value) → from + count ≤ length values → length (part from count values) ≡ count
long_part from count values long = length-take-le count (drop from values) (omega (arith, length-drop from values))

-- a pair
pub pair_allowed : (chip : StilChip) (number : ℕ) (pair : List Bool) (expected : List Trit) → IsPairOf chip pair → AreValuesOf chip expected
    → (pair_form (frame_seen chip) number).allowed (pair_values chip pair expected) ≡ true
pair_allowed chip number pair expected pair_long expected_long =
    let inputs : ℕ = length chip.inputs in
    let outputs : ℕ = length chip.outputs in
    let most : ℕ = longest (map chain_seen chip.chains) in
    let first_state = loads_allowed most (part inputs chip.scan_count pair) chip.chains in
    let first = bits_allowed inputs (part 0 inputs pair) (long_part 0 inputs pair (omega (arith, pair_long))) in
    let last_state = loads_allowed most (part (width_of chip + inputs) chip.scan_count pair) chip.chains in
    let last = bits_allowed inputs (part (width_of chip) inputs pair) (long_part (width_of chip) inputs pair (omega (arith, pair_long))) in
    let due = levels_allowed outputs (part 0 outputs expected) (long_part 0 outputs expected (omega (arith, expected_long))) in
    let captured = unloads_allowed most (part outputs chip.scan_count expected) chip.chains in
    λ j. first_state j && (first j && (last_state j && (last j && (due j && captured j))))

pairs_allowed : (chip : StilChip) (number : ℕ) (pairs : List (List Bool)) (expected : List (List Trit))
    → AllByRecursion (IsPairOf chip) pairs → AllByRecursion (AreValuesOf chip) expected
    → all_allowed (λ number. (pair_form (frame_seen chip) number).allowed) number (all_values chip pairs expected) ≡ true
unfolding all_allowed all_values
pairs_allowed chip number [] expected pairs_of values_of = refl
pairs_allowed chip number (pair ∷ pairs) [] pairs_of values_of = refl
pairs_allowed chip number (pair ∷ pairs) (values ∷ expected) pairs_of values_of =
    let here = pair_allowed chip number pair values pairs_of.0 values_of.0 in
    let later = pairs_allowed chip (number + 1) pairs expected pairs_of.1 values_of.1 in
    λ j. here j && later j

-- the chains' numbers of cells
all_cells : (most : ℕ) (signals : List code.Signal) (controls : Names) (chains : List StilChain) → HasScanGroupsIfAny signals controls chains
    → AllByRecursion (IsUpTo most) chains → most < 10 ^ 64
    → all_each (λ ports. (chain_form ports).allowed) (ports_of (scan_of controls chains)) (map count_of chains) ≡ true
unfolding all_each
all_cells most signals controls [] groups below small = refl
all_cells most signals controls (chain ∷ chains) groups below small =
    cells_allowed 0 most (chain ∷ chains) (by_recursion HasCells (chain ∷ chains) groups.cells) below small

-- the scan groups, and what follows them
scan_allowed : {Second : Type 0} (signals : List code.Signal) (controls : Names) (chains : List StilChain)
    (second : Option Scan → Second → Bool) (rest : Second)
    → list_all is_name (signal_names true signals) ≡ true → list_all is_name (signal_names false signals) ≡ true
    → HasScanGroupsIfAny signals controls chains → second (scan_of controls chains) rest ≡ true
    → allowed_maybe (has_some true (map signal_seen signals) && has_some false (map signal_seen signals))
    (scan_form (map signal_seen signals)).allowed second (scan_of controls chains) rest ≡ true
scan_allowed signals controls [] second rest ins_named outs_named groups is = is
scan_allowed signals [] (chain ∷ chains) second rest ins_named outs_named groups is =
    let counted = groups.counted in absurd (omega (arith, counted))
scan_allowed signals (control ∷ controls) (chain ∷ chains) second rest ins_named outs_named groups is =
    let in_pool : Names = signal_names true signals in
    let out_pool : Names = signal_names false signals in
    let some_in = among_some chain.scan_in (ins chains) in_pool groups.scan_ins in
    let some_out = in_some chain.scan_out out_pool
    (left_true (list_any (bytes_eq chain.scan_out) out_pool) (all_in out_pool (outs chains)) groups.scan_outs) in
    let three = eq-eqb (length (control ∷ controls)) 3 groups.counted in
    let controls_named = in_named (control ∷ controls) in_pool ins_named groups.controls_in in
    let controls_there = groups.controls_in in
    let scan_ins_named = among_named (ins (chain ∷ chains)) in_pool ins_named groups.scan_ins in
    let scan_ins_there = groups.scan_ins in
    let same : (length (outs (chain ∷ chains)) == length (ins (chain ∷ chains))) ≡ true =
    eq-eqb (length (outs (chain ∷ chains))) (length (ins (chain ∷ chains)))
    (length-map (chain ∷ chains) (λ (one : StilChain). one.scan_out) ∙ sym (length-map (chain ∷ chains) (λ (one : StilChain). one.scan_in))) in
    let scan_outs_named = in_named (outs (chain ∷ chains)) out_pool outs_named groups.scan_outs in
    let scan_outs_there = groups.scan_outs in
    let controls_some = some_there (length controls) in
    let ins_some = some_there (length (ins chains)) in
    let outs_some = some_there (length (outs chains)) in
    λ j. (some_in j && some_out j)
    && ((((controls_some j && controls_named j) && (three j && controls_there j))
    && (((ins_some j && scan_ins_named j) && scan_ins_there j)
    && ((outs_some j && scan_outs_named j) && (same j && scan_outs_there j))))
    && is j)

pub values_allowed : (chip : StilChip) (pairs : List (List Bool)) (expected : List (List Trit)) → IsNamedChip chip
    → model.longest chip.chains < 2 ^ 64 → AreOf chip pairs expected
    → stil_form.allowed (stil_value chip pairs expected) ≡ true
values_allowed chip pairs expected named fits are =
    let each = by_recursion (λ (signal : code.Signal). is_name signal.name ≡ true) chip.signals named.named in
    let seen = seen_named chip.signals each in
    let ins_named = names_named true (map signal_seen chip.signals) seen in
    let outs_named = names_named false (map signal_seen chip.signals) seen in
    let most : ℕ = longest (map chain_seen chip.chains) in
    let is = longest_same chip.chains in
    let below = all_up_to chip.chains most (omega (arith, is)) in
    let small : most < 10 ^ 64 = omega (arith, is, fits) in
    let signals = signals_allowed 0 chip.signals each in
    let cells = all_cells most chip.signals chip.controls chip.chains named.scan below small in
    let frame = frame_same chip most below small in
    let all = pairs_allowed chip 0 pairs expected (by_recursion (IsPairOf chip) pairs are.bits) (by_recursion (AreValuesOf chip) expected are.values) in
    let listed : all_allowed (λ (number : ℕ). (pair_form (frame_of (group_of chip.inputs) (group_of chip.outputs) (scan_of chip.controls chip.chains)
    (map count_of chip.chains)) number).allowed) 0 (all_values chip pairs expected) ≡ true =
    ap (λ given. all_allowed (λ (number : ℕ). (pair_form given number).allowed) 0 (all_values chip pairs expected)) frame ∙ all in
    let rest : (rest_form (group_of chip.inputs) (group_of chip.outputs) (scan_of chip.controls chip.chains)).allowed
    (map count_of chip.chains, all_values chip pairs expected) ≡ true = (λ j. cells j && listed j) in
    let scan = scan_allowed chip.signals chip.controls chip.chains
    (λ one. (rest_form (group_of chip.inputs) (group_of chip.outputs) one).allowed)
    (map count_of chip.chains, all_values chip pairs expected) ins_named outs_named named.scan rest in
    let outputs = group_allowed (signal_names false chip.signals) chip.outputs
    (λ one. (scan_part (map signal_seen chip.signals) (group_of chip.inputs) one).allowed)
    (scan_of chip.controls chip.chains, (map count_of chip.chains, all_values chip pairs expected)) outs_named named.outputs scan in
    let inputs = group_allowed (signal_names true chip.signals) chip.inputs
    (λ one. (outputs_part (map signal_seen chip.signals) one).allowed)
    (group_of chip.outputs, (scan_of chip.controls chip.chains, (map count_of chip.chains, all_values chip pairs expected))) ins_named named.inputs outputs in
    λ j. signals j && inputs j
