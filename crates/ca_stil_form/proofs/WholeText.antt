-- The whole text of a chip is that of the form.
use Rattle.std.proofs.Common.{◌≡◌, ℕ, suc, ◌+◌, ◌<◌, ◌^◌, Bool, List, [], ◌∷◌, ◌++◌, ◌∙◌, length, map}
use Rattle.std.proofs.Common.{arith, append_assoc, sym, refl, codes}
use Rattle.std.specs.List.{All, AllByRecursion, flat_map}
use Rattle.ca_net.specs.declared.trit.Trit.{Trit}
use Rattle.ca_stil.specs.declared.chip.StilChain.{StilChain}
use Rattle.ca_stil.specs.declared.chip.StilChip.{StilChip}
use Rattle.ca_stil.specs.Chip as model
use Rattle.ca_stil.specs.Chip.{part, IsPairOf, AreValuesOf, AreOf}
use Rattle.ca_stil.specs.Groups.{signal_text, signals_text, group_if_any, scan_groups_if_any, groups_text}
use Rattle.ca_stil.specs.Frame as frame
use Rattle.ca_stil.specs.Pair.{label_text, load_of_text, vector_text, expected_text, unobserved_text}
use Rattle.ca_stil.specs.Pair.{capture_text, unload_of_text, hold_text, load_text, apply_text, half_text}
use Rattle.ca_stil.specs.Pair.{first_text, second_text, unload_text, pair_text}
use Rattle.ca_stil.specs.Text.{structure_text, frame_text, pairs_text, patterns_text, stil_text}
use Rattle.ca_stil_form.specs.Grammar.{text_until, text_each}
use Rattle.ca_stil_form.specs.Frame.{longest}
use Rattle.ca_stil_form.specs.Pattern.{pair_form}
use Rattle.ca_stil_form.specs.Whole.{ports_of, chain_form, chains_begin, chains_end, stil_form}
use Rattle.ca_stil_form.specs.Value.{scan_of, pair_values, all_values, stil_value}
use Rattle.ca_stil_form.proofs.TextLemmas.{signals_same, groups_same, input_waves_same, output_waves_same}
use Rattle.ca_stil_form.proofs.TextLemmas.{scan_waves_same, structures_same, macro_same}
use Rattle.ca_stil_form.proofs.PairTexts.{chain_seen, frame_seen, count_of, IsUpTo, frame_same, longest_same}
use Rattle.ca_stil_form.proofs.PairTexts.{all_up_to, pair_two, pair_six}

-- the statements of a pair of a chip with these chains
pair_with : (chip : StilChip) (chains : List StilChain) (number : ℕ) (pair : List Bool) (expected : List Trit)
    → AllByRecursion (IsUpTo (longest (map chain_seen chains))) chains → IsPairOf chip pair → AreValuesOf chip expected
    → (pair_form (frame_seen (record chip { chains = chains })) number).text (pair_values (record chip { chains = chains }) pair expected)
    ≡ pair_text (record chip { chains = chains }) (longest (map chain_seen chains)) number pair expected
unfolding pair_text first_text second_text half_text apply_text hold_text load_text unload_text
pair_with chip [] number pair expected below pair_long expected_long =
    pair_two (length chip.inputs) (length chip.outputs) chip.scan_count number pair expected pair_long expected_long
pair_with chip (chain ∷ others) number pair expected below pair_long expected_long =
    let inputs : ℕ = length chip.inputs in
    let outputs : ℕ = length chip.outputs in
    let scans : ℕ = chip.scan_count in
    let most : ℕ = longest (map chain_seen (chain ∷ others)) in
    let state : inputs ≡ 0 + inputs = omega arith in
    pair_six inputs outputs scans number chain others pair expected below pair_long expected_long
    ∙ (λ j. codes "  " ++ (label_text number
    ++ (((load_of_text most (part (state j) scans pair) (chain ∷ others)
    ++ (codes "V {" ++ (codes " \"_ctl_\"=000;" ++ vector_text inputs (part 0 inputs pair))))
    ++ (unobserved_text outputs ++ codes " }\n"))
    ++ (codes "  " ++ (((load_of_text most (part (inputs + scans + inputs) scans pair) (chain ∷ others)
    ++ (codes "V {" ++ (codes " \"_ctl_\"=000;" ++ vector_text inputs (part (inputs + scans) inputs pair))))
    ++ (expected_text outputs (part 0 outputs expected) ++ codes " }\n"))
    ++ (capture_text outputs ++ unload_of_text most (part outputs scans expected) (chain ∷ others)))))))

-- the statements of the pairs, and what closes them
pairs_same : (chip : StilChip) (number : ℕ) (pairs : List (List Bool)) (expected : List (List Trit))
    → AllByRecursion (IsUpTo (longest (map chain_seen chip.chains))) chip.chains → AllByRecursion (IsPairOf chip) pairs
    → AllByRecursion (AreValuesOf chip) expected
    → text_until (codes "}\n") (λ number. (pair_form (frame_seen chip) number).text) number (all_values chip pairs expected)
    ≡ pairs_text chip (longest (map chain_seen chip.chains)) number pairs expected ++ codes "}\n"
unfolding text_until all_values pairs_text
pairs_same chip number [] expected below pairs_of values_of = refl
pairs_same chip number (pair ∷ pairs) [] below pairs_of values_of = refl
pairs_same chip number (pair ∷ pairs) (values ∷ expected) below pairs_of values_of =
    let most : ℕ = longest (map chain_seen chip.chains) in
    let here = pair_with chip chip.chains number pair values below pairs_of.0 values_of.0 in
    let rest = pairs_same chip (number + 1) pairs expected below pairs_of.1 values_of.1 in
    (λ j. here j ++ rest j)
    ∙ sym (append_assoc (pair_text chip most number pair values) (pairs_text chip most (number + 1) pairs expected) (codes "}\n"))

-- the whole text, regrouped
flat_all : (h k s c g p o q t d e f u v w x b m a y : List ℕ)
    → h ++ (k ++ ((s ++ c) ++ (g ++ (p ++ (o ++ (q ++ ((c ++ (t ++ (d ++ (e ++ (f ++ (u ++ v)))))) ++ (w ++ ((x ++ (b ++ (m ++ a))) ++ (y ++ c))))))))))
    ≡ (h ++ ((k ++ (s ++ c)) ++ ((g ++ (p ++ (o ++ (q ++ c)))) ++ ((t ++ (d ++ (e ++ (f ++ u)))) ++ ((v ++ (w ++ x)) ++ (b ++ m)))))) ++ (a ++ (y ++ c))
flat_all h k s c g p o q t d e f u v w x b m a y =
    let all : List ℕ = h ++ (k ++ (s ++ (c ++ (g ++ (p ++ (o ++ (q ++ (c ++ (t ++ (d ++ (e ++ (f ++ (u ++ (v ++ (w ++ (x ++ (b ++ (m ++ (a ++ (y ++ c)))))))))))))))))))) in
    let one : h ++ (k ++ ((s ++ c) ++ (g ++ (p ++ (o ++ (q ++ ((c ++ (t ++ (d ++ (e ++ (f ++ (u ++ v)))))) ++ (w ++ ((x ++ (b ++ (m ++ a))) ++ (y ++ c)))))))))) ≡ all =
    simp append_assoc in
    let other : (h ++ ((k ++ (s ++ c)) ++ ((g ++ (p ++ (o ++ (q ++ c)))) ++ ((t ++ (d ++ (e ++ (f ++ u)))) ++ ((v ++ (w ++ x)) ++ (b ++ m)))))) ++ (a ++ (y ++ c)) ≡ all =
    simp append_assoc in
    one ∙ sym other

-- what holds of each holds by recursion
by_recursion : {Item : Type 0} (P : Item → Type 0) (items : List Item) → All P items → AllByRecursion P items
by_recursion P [] all = tt
by_recursion P (item ∷ items) all =
    (all 0 item (omega arith), by_recursion P items (λ k other within. all (suc k) other (omega (arith, within))))

-- the whole text
whole_same : (chip : StilChip) (pairs : List (List Bool)) (expected : List (List Trit))
    → AllByRecursion (IsUpTo (longest (map chain_seen chip.chains))) chip.chains
    → longest (map chain_seen chip.chains) ≡ model.longest chip.chains
    → longest (map chain_seen chip.chains) < 10 ^ 64 → AllByRecursion (IsPairOf chip) pairs
    → AllByRecursion (AreValuesOf chip) expected
    → stil_form.text (stil_value chip pairs expected) ≡ stil_text chip pairs expected
unfolding stil_text frame_text patterns_text structure_text signals_text groups_text frame.timing_text frame.burst_text
whole_same chip pairs expected below is small pairs_of values_of =
    let most : ℕ = longest (map chain_seen chip.chains) in
    let close : List ℕ = codes "}\n" in
    let timing_begins : List ℕ = codes "Timing {\n  WaveformTable \"_wft_\" {\n    Period '100ns';\n    Waveforms {\n" in
    let timing_ends : List ℕ = codes "    }\n  }\n}\n" in
    let pattern_begins_text : List ℕ = codes "Pattern \"_pattern_\" {\n  W \"_wft_\";\n" in
    let before : List ℕ = (chains_begin (scan_of chip.controls chip.chains)).text in
    let each : List ℕ = text_each (λ ports. (chain_form ports).text) (ports_of (scan_of chip.controls chip.chains)) (map count_of chip.chains) in
    let following : List ℕ = (chains_end (scan_of chip.controls chip.chains)).text in
    let signals = signals_same 0 chip.signals in
    let groups = groups_same chip (map count_of chip.chains, all_values chip pairs expected) in
    let inputs = input_waves_same chip.inputs in
    let outputs = output_waves_same chip.outputs in
    let scan = scan_waves_same chip.controls chip.chains in
    let shifts = macro_same chip.controls chip.chains in
    let seen = frame_same chip most below small in
    let structures = structures_same chip.controls chip.chains in
    let written = pairs_same chip 0 pairs expected below pairs_of values_of in
    (λ j. (codes "STIL 1.0;\n" ++ codes "Signals {\n") ++ (signals j ++ (codes "SignalGroups {\n" ++ groups j)))
    ∙ ((λ j. codes "STIL 1.0;\n" ++ (codes "Signals {\n" ++ ((flat_map signal_text chip.signals ++ close) ++ (codes "SignalGroups {\n"
    ++ (group_if_any (codes "_pi_") chip.inputs ++ (group_if_any (codes "_po_") chip.outputs
    ++ (scan_groups_if_any chip.controls chip.chains ++ ((close ++ (timing_begins ++ (inputs j ++ (outputs j ++ (scan j ++ (timing_ends ++ before))))))
    ++ (each ++ ((following ++ (frame.burst_text ++ (shifts j ++ pattern_begins_text)))
    ++ text_until (codes "}\n") (λ number. (pair_form (seen j) number).text) 0 (all_values chip pairs expected)))))))))))
    ∙ ((λ j. codes "STIL 1.0;\n" ++ (codes "Signals {\n" ++ ((flat_map signal_text chip.signals ++ close) ++ (codes "SignalGroups {\n"
    ++ (group_if_any (codes "_pi_") chip.inputs ++ (group_if_any (codes "_po_") chip.outputs
    ++ (scan_groups_if_any chip.controls chip.chains
    ++ ((close ++ (timing_begins ++ (frame.input_waves chip.inputs ++ (frame.output_waves chip.outputs ++ (frame.scan_waves chip.chains ++ (timing_ends ++ before))))))
    ++ (each ++ ((following ++ (frame.burst_text ++ (frame.macro_text chip.chains ++ pattern_begins_text))) ++ written j))))))))))
    ∙ (flat_all (codes "STIL 1.0;\n") (codes "Signals {\n") (flat_map signal_text chip.signals) close (codes "SignalGroups {\n") (group_if_any (codes "_pi_") chip.inputs) (group_if_any (codes "_po_") chip.outputs) (scan_groups_if_any chip.controls chip.chains) timing_begins (frame.input_waves chip.inputs) (frame.output_waves chip.outputs) (frame.scan_waves chip.chains) timing_ends before each following frame.burst_text (frame.macro_text chip.chains) pattern_begins_text (pairs_text chip most 0 pairs expected)
    ∙ ((λ j. (codes "STIL 1.0;\n" ++ ((codes "Signals {\n" ++ ((flat_map signal_text chip.signals) ++ close)) ++ ((codes "SignalGroups {\n" ++ (group_if_any (codes "_pi_") chip.inputs ++ (group_if_any (codes "_po_") chip.outputs ++ (scan_groups_if_any chip.controls chip.chains ++ close)))) ++ ((timing_begins ++ (frame.input_waves chip.inputs ++ (frame.output_waves chip.outputs ++ (frame.scan_waves chip.chains ++ timing_ends)))) ++ (structures j ++ (frame.burst_text ++ frame.macro_text chip.chains)))))) ++ (pattern_begins_text ++ (pairs_text chip most 0 pairs expected ++ close)))
    ∙ (λ j. (codes "STIL 1.0;\n" ++ ((codes "Signals {\n" ++ ((flat_map signal_text chip.signals) ++ close)) ++ ((codes "SignalGroups {\n" ++ (group_if_any (codes "_pi_") chip.inputs ++ (group_if_any (codes "_po_") chip.outputs ++ (scan_groups_if_any chip.controls chip.chains ++ close)))) ++ ((timing_begins ++ (frame.input_waves chip.inputs ++ (frame.output_waves chip.outputs ++ (frame.scan_waves chip.chains ++ timing_ends)))) ++ (frame.structures_text chip.chains ++ (frame.burst_text ++ frame.macro_text chip.chains)))))) ++ (pattern_begins_text ++ (pairs_text chip (is j) 0 pairs expected ++ close)))))))

pub stil_is_of_the_form : (chip : StilChip) (pairs : List (List Bool)) (expected : List (List Trit))
    → model.longest chip.chains < 2 ^ 64 → AreOf chip pairs expected
    → stil_form.text (stil_value chip pairs expected) ≡ stil_text chip pairs expected
stil_is_of_the_form chip pairs expected fits are =
    let is = longest_same chip.chains in
    let below = all_up_to chip.chains (longest (map chain_seen chip.chains)) (omega (arith, is)) in
    whole_same chip pairs expected below is (omega (arith, is, fits)) (by_recursion (IsPairOf chip) pairs are.bits)
    (by_recursion (AreValuesOf chip) expected are.values)
