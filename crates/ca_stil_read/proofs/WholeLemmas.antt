-- A whole text's form reads as its parts do.
use Rattle.std.proofs.Common.{◌≡◌, ℕ, ◌==◌, true, false, not, subst, ◌&&◌, List, [], ◌∷◌, map, length, codes}
use Rattle.std.proofs.Common.{Option, Ok, Err, refl, sym, ap, ◌∙◌}
use Rattle.ca_stil_form.specs.Form.{Token, Outcome, Got, Stuck, mapped, read_fixed, read_items}
use Rattle.ca_stil_form.specs.Grammar.{Form, fixed, items_until, for_each, following, and_then}
use Rattle.ca_stil_form.specs.Reading.{at_end, whole}
use Rattle.ca_stil_form.specs.Tokens.{tokens_of}
use Rattle.ca_stil_form.specs.Frame.{Signal, Names, Scan, names_of, fits_in_order, has_some, key_inputs}
use Rattle.ca_stil_form.specs.Frame.{key_outputs, key_controls}
use Rattle.ca_stil_form.specs.Pattern.{PairValues, pair_form}
use Rattle.ca_stil_form.specs.Whole.{Stil, Rest, signal_form, group_form, scan_form, ports_of, chain_form}
use Rattle.ca_stil_form.specs.Whole.{frame_of, timing, pattern_begins}
use Rattle.ca_stil_form.specs.Whole.{rest_form, scan_part, outputs_part, inputs_part, stil_form}
use Rattle.ca_stil_read.specs.Onward.{onward, read_optional}
use Rattle.ca_stil_read.specs.Plan.{flat_pair}
use Rattle.ca_stil_read.specs.Whole.{FlatRest, FlatStil, flat_stil, read_signals, read_inputs, read_outputs}
use Rattle.ca_stil_read.specs.Whole.{read_scan, read_groups}
use Rattle.ca_stil_read.specs.Whole.{read_cells, read_pairs, read_rest, read_all}
use Rattle.ca_stil_read.specs.code.Whole.{nothing_after}
use Rattle.ca_stil_read.proofs.OnwardLemmas.{after_onward, and_then_onward, maybe_onward, mapped_twice}
use Rattle.ca_stil_read.proofs.OnwardLemmas.{onward_twice, onward_mapped, onward_got}

abbrev flat_rest : Rest → FlatRest
flat_rest rest = (rest.0, map flat_pair rest.1)

-- what stands behind the groups: the chains, and the pairs after them
abbrev pairs_part : Option Names → Option Names → Option Scan → List (List ℕ) → Form (List PairValues)
pairs_part inputs outputs scan cells = items_until (codes "}") (codes "}\n") (pair_form (frame_of inputs outputs scan cells)) 0

abbrev chains_part : Option Names → Option Names → Option Scan → Form Rest
chains_part inputs outputs scan =
    and_then (for_each chain_form (ports_of scan)) (λ cells. following (pattern_begins scan) (pairs_part inputs outputs scan cells))

rest_flat : (inputs outputs : Option Names) (scan : Option Scan) (tokens : List Token)
    → mapped flat_rest ((rest_form inputs outputs scan).read tokens) ≡ read_rest inputs outputs scan tokens
unfolding read_rest read_cells read_pairs
rest_flat inputs outputs scan tokens =
    after_onward flat_rest (timing inputs outputs scan) (chains_part inputs outputs scan) tokens
    ∙ (λ j. onward (read_fixed (timing inputs outputs scan).tokens tokens) (λ passed begun. chains begun j))
  where
    pairs : (cells : List (List ℕ)) (given : List Token)
        → mapped (λ pairs. flat_rest (cells, pairs)) ((items_until (codes "}") (codes "}\n") (pair_form (frame_of inputs outputs scan cells)) 0).read given)
        ≡ mapped (λ pairs. (cells, pairs)) (read_pairs (frame_of inputs outputs scan cells) 0 given)
    pairs cells given =
        sym (mapped_twice (map flat_pair) (λ pairs. (cells, pairs)) (read_items (codes "}") (λ number. (pair_form (frame_of inputs outputs scan cells) number).read) 0 given))

    patterns : (cells : List (List ℕ)) (given : List Token)
        → mapped (λ pairs. flat_rest (cells, pairs)) ((following (pattern_begins scan) (items_until (codes "}") (codes "}\n") (pair_form (frame_of inputs outputs scan cells)) 0)).read given)
        ≡ onward (read_fixed (pattern_begins scan).tokens given) (λ passed beyond.
        mapped (λ pairs. (cells, pairs)) (read_pairs (frame_of inputs outputs scan cells) 0 beyond))
    patterns cells given =
        after_onward (λ pairs. flat_rest (cells, pairs)) (pattern_begins scan) (pairs_part inputs outputs scan cells) given
        ∙ (λ j. onward (read_fixed (pattern_begins scan).tokens given) (λ passed beyond. pairs cells beyond j))

    chains : (given : List Token)
        → mapped flat_rest ((and_then (for_each chain_form (ports_of scan)) (λ cells. following (pattern_begins scan)
        (items_until (codes "}") (codes "}\n") (pair_form (frame_of inputs outputs scan cells)) 0))).read given)
        ≡ onward (read_cells scan given) (λ cells following.
        onward (read_fixed (pattern_begins scan).tokens following) (λ passed beyond.
        mapped (λ pairs. (cells, pairs)) (read_pairs (frame_of inputs outputs scan cells) 0 beyond)))
    chains given =
        and_then_onward flat_rest (for_each chain_form (ports_of scan)) (λ cells. following (pattern_begins scan) (pairs_part inputs outputs scan cells)) given
        ∙ (λ j. onward (read_cells scan given) (λ cells following. patterns cells following j))

-- the groups, one after another
scan_flat : {Seen : Type 0} (view : Option Scan → FlatRest → Seen) (signals : List Signal) (inputs outputs : Option Names) (tokens : List Token)
    → mapped (λ both. view both.0 (flat_rest both.1)) ((scan_part signals inputs outputs).read tokens)
    ≡ onward (read_scan signals tokens) (λ scan rest. mapped (view scan) (read_rest inputs outputs scan rest))
scan_flat view signals inputs outputs tokens =
    maybe_onward (λ both. view both.0 (flat_rest both.1)) (has_some true signals && has_some false signals) key_controls
    (scan_form signals) (rest_form inputs outputs) tokens
    ∙ (λ j. onward (read_scan signals tokens) (λ scan rest.
    (sym (mapped_twice flat_rest (view scan) ((rest_form inputs outputs scan).read rest))
    ∙ ap (mapped (view scan)) (rest_flat inputs outputs scan rest)) j))

outputs_flat : {Seen : Type 0} (view : Option Names → Option Scan → FlatRest → Seen) (signals : List Signal) (inputs : Option Names) (tokens : List Token)
    → mapped (λ both. view both.0 both.1.0 (flat_rest both.1.1)) ((outputs_part signals inputs).read tokens)
    ≡ onward (read_outputs signals tokens) (λ outputs following. onward (read_scan signals following) (λ scan rest.
    mapped (view outputs scan) (read_rest inputs outputs scan rest)))
outputs_flat view signals inputs tokens =
    maybe_onward (λ both. view both.0 both.1.0 (flat_rest both.1.1)) (has_some false signals) key_outputs
    (group_form key_outputs (fits_in_order (names_of false signals))) (scan_part signals inputs) tokens
    ∙ (λ j. onward (read_outputs signals tokens) (λ outputs following. scan_flat (view outputs) signals inputs outputs following j))

inputs_flat : {Seen : Type 0} (view : Option Names → Option Names → Option Scan → FlatRest → Seen) (signals : List Signal) (tokens : List Token)
    → mapped (λ both. view both.0 both.1.0 both.1.1.0 (flat_rest both.1.1.1)) ((inputs_part signals).read tokens)
    ≡ onward (read_inputs signals tokens) (λ inputs begun. onward (read_outputs signals begun) (λ outputs following.
    onward (read_scan signals following) (λ scan rest. mapped (view inputs outputs scan) (read_rest inputs outputs scan rest))))
inputs_flat view signals tokens =
    maybe_onward (λ both. view both.0 both.1.0 both.1.1.0 (flat_rest both.1.1.1)) (has_some true signals) key_inputs
    (group_form key_inputs (fits_in_order (names_of true signals))) (outputs_part signals) tokens
    ∙ (λ j. onward (read_inputs signals tokens) (λ inputs begun. outputs_flat (view inputs) signals inputs begun j))

groups_onward : {Seen : Type 0} (signals : List Signal) (tokens : List Token)
    (next : Option Names × (Option Names × Option Scan) → List Token → Outcome Seen)
    → onward (read_groups signals tokens) next
    ≡ onward (read_inputs signals tokens) (λ inputs begun. onward (read_outputs signals begun) (λ outputs following.
    onward (read_scan signals following) (λ scan. next (inputs, (outputs, scan)))))
unfolding read_groups
groups_onward signals tokens next =
    onward_twice (read_inputs signals tokens) _ next
    ∙ (λ j. onward (read_inputs signals tokens) (λ inputs begun.
    (onward_twice (read_outputs signals begun) _ next
    ∙ (λ k. onward (read_outputs signals begun) (λ outputs following.
    onward_mapped (λ scan. (inputs, (outputs, scan))) (read_scan signals following) next k))) j))

signals_onward : {Seen : Type 0} (tokens : List Token) (next : List Signal → List Token → Outcome Seen)
    → onward (read_signals tokens) next
    ≡ onward (read_fixed (tokens_of (codes "STIL 1.0;\nSignals {\n")) tokens) (λ passed begun.
    onward (read_items (codes "}") (λ number. signal_form.read) 0 begun) (λ signals following.
    onward (read_fixed (tokens_of (codes "SignalGroups {\n")) following) (λ passed. next signals)))
unfolding read_signals
signals_onward tokens next =
    onward_twice (read_fixed (tokens_of (codes "STIL 1.0;\nSignals {\n")) tokens) _ next
    ∙ (λ j. onward (read_fixed (tokens_of (codes "STIL 1.0;\nSignals {\n")) tokens) (λ passed begun.
    (onward_twice (read_items (codes "}") (λ number. signal_form.read) 0 begun) _ next
    ∙ (λ k. onward (read_items (codes "}") (λ number. signal_form.read) 0 begun) (λ signals following.
    onward_mapped (λ passed. signals) (read_fixed (tokens_of (codes "SignalGroups {\n")) following) next k))) j))

-- the whole text
pub all_flat : (tokens : List Token) → mapped flat_stil (stil_form.read tokens) ≡ read_all tokens
unfolding read_all
all_flat tokens =
    after_onward flat_stil (fixed (codes "STIL 1.0;\nSignals {\n")) (and_then (items_until (codes "}") (codes "}\n") (λ number. signal_form) 0) (λ signals.
    following (fixed (codes "SignalGroups {\n")) (inputs_part signals))) tokens
    ∙ (λ j. onward (read_fixed (tokens_of (codes "STIL 1.0;\nSignals {\n")) tokens) (λ passed begun. signals begun j))
    ∙ sym (signals_onward tokens (λ signals following. onward (read_groups signals following) (λ groups beyond.
    mapped (view signals groups.0 groups.1.0 groups.1.1) (read_rest groups.0 groups.1.0 groups.1.1 beyond))))
  where
    view : List Signal → Option Names → Option Names → Option Scan → FlatRest → FlatStil
    view signals inputs outputs scan rest = (signals, (inputs, (outputs, (scan, rest))))

    groups : (signals : List Signal) (given : List Token)
        → mapped (λ both. flat_stil (signals, both)) ((following (fixed (codes "SignalGroups {\n")) (inputs_part signals)).read given)
        ≡ onward (read_fixed (tokens_of (codes "SignalGroups {\n")) given) (λ passed following.
        onward (read_groups signals following) (λ groups beyond.
        mapped (view signals groups.0 groups.1.0 groups.1.1) (read_rest groups.0 groups.1.0 groups.1.1 beyond)))
    groups signals given =
        after_onward (λ both. flat_stil (signals, both)) (fixed (codes "SignalGroups {\n")) (inputs_part signals) given
        ∙ (λ j. onward (read_fixed (tokens_of (codes "SignalGroups {\n")) given) (λ passed following.
        (inputs_flat (view signals) signals following ∙ sym (groups_onward signals following (λ groups beyond.
        mapped (view signals groups.0 groups.1.0 groups.1.1) (read_rest groups.0 groups.1.0 groups.1.1 beyond)))) j))

    signals : (given : List Token)
        → mapped flat_stil ((and_then (items_until (codes "}") (codes "}\n") (λ number. signal_form) 0) (λ signals.
        following (fixed (codes "SignalGroups {\n")) (inputs_part signals))).read given)
        ≡ onward (read_items (codes "}") (λ number. signal_form.read) 0 given) (λ signals following.
        onward (read_fixed (tokens_of (codes "SignalGroups {\n")) following) (λ passed beyond.
        onward (read_groups signals beyond) (λ groups rest.
        mapped (view signals groups.0 groups.1.0 groups.1.1) (read_rest groups.0 groups.1.0 groups.1.1 rest))))
    signals given =
        and_then_onward flat_stil (items_until (codes "}") (codes "}\n") (λ number. signal_form) 0) (λ signals.
        following (fixed (codes "SignalGroups {\n")) (inputs_part signals)) given
        ∙ (λ j. onward (read_items (codes "}") (λ number. signal_form.read) 0 given) (λ signals following. groups signals following j))

-- a text that is read to its end, or isn't
pub record IsWholeRead (tokens : List Token) (seen : FlatStil) : Type 0 where
  pub value : Stil
  pub reads : whole stil_form tokens ≡ Ok value
  pub same : seen ≡ flat_stil value

pub whole_read : (tokens : List Token) (seen : FlatStil) → read_all tokens ≡ Got seen [] → IsWholeRead tokens seen
whole_read tokens seen is = by (stil_form.read tokens) refl (all_flat tokens ∙ is)
  where
    by : (given : Outcome Stil) → stil_form.read tokens ≡ given → mapped flat_stil given ≡ Got seen [] → IsWholeRead tokens seen
    by (Got value []) read known = record { value = value; reads = ap at_end read; same = cc }
    by (Got value (token ∷ rest)) read known = absurd cc
    by (Stuck rest) read known = absurd cc

pub whole_stuck : (tokens rest : List Token) → nothing_after (read_all tokens) ≡ Stuck rest → whole stil_form tokens ≡ Err (length rest)
whole_stuck tokens rest is = by (stil_form.read tokens) refl (ap nothing_after (all_flat tokens) ∙ is)
  where
    by : (given : Outcome Stil) → stil_form.read tokens ≡ given → nothing_after (mapped flat_stil given) ≡ Stuck rest
        → whole stil_form tokens ≡ Err (length rest)
    by (Got value []) read known = absurd cc
    by (Got value (token ∷ after)) read known =
        let same : token ∷ after ≡ rest = cc in
        ap at_end read ∙ ap (λ (given : List Token). Err (length given)) same
    by (Stuck after) read known =
        let same : after ≡ rest = cc in
        ap at_end read ∙ ap (λ (given : List Token). Err (length given)) same

-- the signals are read
pub signals_read : (tokens begun following after : List Token) (signals : List Signal)
    → read_fixed (tokens_of (codes "STIL 1.0;\nSignals {\n")) tokens ≡ Got tt begun
    → read_items (codes "}") (λ number. signal_form.read) 0 begun ≡ Got signals following
    → read_fixed (tokens_of (codes "SignalGroups {\n")) following ≡ Got tt after
    → read_signals tokens ≡ Got signals after
unfolding read_signals
signals_read tokens begun following after signals first items last =
    onward_got (read_fixed (tokens_of (codes "STIL 1.0;\nSignals {\n")) tokens) _ tt begun first
    ∙ onward_got (read_items (codes "}") (λ number. signal_form.read) 0 begun) _ signals following items
    ∙ ap (mapped (λ passed. signals)) last

-- the groups are read
pub inputs_read : (signals : List Signal) (pool : Names) → pool ≡ names_of true signals → (tokens rest : List Token) (names : Option Names)
    → read_optional (not (length pool == 0)) key_inputs (group_form key_inputs (fits_in_order pool)).read tokens ≡ Got names rest
    → read_inputs signals tokens ≡ Got names rest
inputs_read signals pool is tokens rest names read =
    subst (λ (given : Names). read_optional (not (length given == 0)) key_inputs (group_form key_inputs (fits_in_order given)).read tokens ≡ Got names rest) is read

pub outputs_read : (signals : List Signal) (pool : Names) → pool ≡ names_of false signals → (tokens rest : List Token) (names : Option Names)
    → read_optional (not (length pool == 0)) key_outputs (group_form key_outputs (fits_in_order pool)).read tokens ≡ Got names rest
    → read_outputs signals tokens ≡ Got names rest
outputs_read signals pool is tokens rest names read =
    subst (λ (given : Names). read_optional (not (length given == 0)) key_outputs (group_form key_outputs (fits_in_order given)).read tokens ≡ Got names rest) is read

pub groups_read : (signals : List Signal) (tokens begun following after : List Token) (inputs outputs : Option Names) (scan : Option Scan)
    → read_inputs signals tokens ≡ Got inputs begun → read_outputs signals begun ≡ Got outputs following → read_scan signals following ≡ Got scan after
    → read_groups signals tokens ≡ Got (inputs, (outputs, scan)) after
unfolding read_groups
groups_read signals tokens begun following after inputs outputs scan first second third =
    onward_got (read_inputs signals tokens) _ inputs begun first
    ∙ onward_got (read_outputs signals begun) _ outputs following second
    ∙ ap (mapped (λ scan. (inputs, (outputs, scan)))) third
