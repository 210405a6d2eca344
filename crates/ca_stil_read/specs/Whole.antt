-- What a whole text reads as, part by part: the form's own values, but those of a pair one after another.
use Rattle.std.specs.Prelude.{ℕ, true, false, ◌&&◌, List, map, Option, codes}
use Rattle.ca_stil_form.specs.Form.{Token, Outcome, mapped, read_fixed, read_items, read_each}
use Rattle.ca_stil_form.specs.Tokens.{tokens_of}
use Rattle.ca_stil_form.specs.Frame.{Signal, Names, Scan, Frame, names_of, fits_in_order, has_some}
use Rattle.ca_stil_form.specs.Frame.{key_inputs, key_outputs, key_controls}
use Rattle.ca_stil_form.specs.Pattern.{pair_form}
use Rattle.ca_stil_form.specs.Whole.{Stil, signal_form, group_form, scan_form, ports_of, chain_form, frame_of}
use Rattle.ca_stil_form.specs.Whole.{timing, pattern_begins}
use Rattle.ca_stil_read.specs.Onward.{onward, read_optional}
use Rattle.ca_stil_read.specs.Plan.{Flat, flat_pair}

-- the numbers of cells of the chains, and the pairs
abbrev pub FlatRest : Type 0
FlatRest = List (List ℕ) × List Flat

abbrev pub FlatStil : Type 0
FlatStil = List Signal × (Option Names × (Option Names × (Option Scan × FlatRest)))

-- the values of a text, those of each pair one after another
abbrev pub flat_stil : Stil → FlatStil
flat_stil stil =
    (stil.0, (stil.1.0, (stil.1.1.0, (stil.1.1.1.0, (stil.1.1.1.1.0, map flat_pair stil.1.1.1.1.1)))))

-- the signals, up to the groups
unfoldable pub read_signals : List Token → Outcome (List Signal)
read_signals tokens =
    onward (read_fixed (tokens_of (codes "STIL 1.0;\nSignals {\n")) tokens) (λ passed begun.
    onward (read_items (codes "}") (λ number. signal_form.read) 0 begun) (λ signals after.
    mapped (λ passed. signals) (read_fixed (tokens_of (codes "SignalGroups {\n")) after)))

-- a group that may be left out: of chip inputs, of observed outputs; the scan groups
abbrev pub read_inputs : List Signal → List Token → Outcome (Option Names)
read_inputs signals =
    read_optional (has_some true signals) key_inputs
    (group_form key_inputs (fits_in_order (names_of true signals))).read

abbrev pub read_outputs : List Signal → List Token → Outcome (Option Names)
read_outputs signals =
    read_optional (has_some false signals) key_outputs
    (group_form key_outputs (fits_in_order (names_of false signals))).read

abbrev pub read_scan : List Signal → List Token → Outcome (Option Scan)
read_scan signals =
    read_optional (has_some true signals && has_some false signals) key_controls (scan_form signals).read

-- the groups
unfoldable pub read_groups : List Signal → List Token
    → Outcome (Option Names × (Option Names × Option Scan))
read_groups signals tokens =
    onward (read_inputs signals tokens) (λ inputs after.
    onward (read_outputs signals after) (λ outputs beyond.
    mapped (λ scan. (inputs, (outputs, scan))) (read_scan signals beyond)))

-- the numbers of cells of the chains
unfoldable pub read_cells : Option Scan → List Token → Outcome (List (List ℕ))
read_cells scan tokens = read_each (λ ports. (chain_form ports).read) (ports_of scan) tokens

-- the pairs, from the one of this number on
unfoldable pub read_pairs : Frame → ℕ → List Token → Outcome (List Flat)
read_pairs frame number tokens =
    mapped (map flat_pair) (read_items (codes "}") (λ number. (pair_form frame number).read) number tokens)

-- what stands after the groups
unfoldable pub read_rest : Option Names → Option Names → Option Scan → List Token → Outcome FlatRest
read_rest inputs outputs scan tokens =
    onward (read_fixed (timing inputs outputs scan).tokens tokens) (λ passed begun.
    onward (read_cells scan begun) (λ cells after.
    onward (read_fixed (pattern_begins scan).tokens after) (λ passed beyond.
    mapped (λ pairs. (cells, pairs)) (read_pairs (frame_of inputs outputs scan cells) 0 beyond))))

-- the whole text
unfoldable pub read_all : List Token → Outcome FlatStil
read_all tokens =
    onward (read_signals tokens) (λ signals after.
    onward (read_groups signals after) (λ groups beyond.
    mapped (λ rest. (signals, (groups.0, (groups.1.0, (groups.1.1, rest)))))
    (read_rest groups.0 groups.1.0 groups.1.1 beyond)))
