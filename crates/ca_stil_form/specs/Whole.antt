-- A whole STIL text as tokens: the signals, the groups, the timing, the chains, the macro and the pairs.
use Rattle.std.specs.Prelude.{ℕ, ◌+◌, ◌==◌, Bool, true, false, not, ◌&&◌, List, [], ◌∷◌, ◌++◌, length, Option}
use Rattle.std.specs.Prelude.{Some, None, codes, decimal, take, drop, ◌-◌}
use Rattle.std.specs.List.{list_all}
use Rattle.std.specs.Str.{bytes_eq}
use Rattle.ca_lex.specs.Length.{is_digit, number_of}
pub use Rattle.ca_stil.specs.Groups.{direction_word}
use Rattle.ca_stil_form.specs.Form.{Token}
use Rattle.ca_stil_form.specs.Grammar.{Piece, fixed, blank, token, no_piece, ◌<>◌, pieces, Form, word}
use Rattle.ca_stil_form.specs.Grammar.{and_then, following, before, items_until, for_each, maybe}
use Rattle.ca_stil_form.specs.Frame.{Signal, Names, Scan, Chain, Frame, is_name, quoted, group_word}
use Rattle.ca_stil_form.specs.Frame.{quoted_from, names_of, fits_in_order, fits_in_number, has_some}
use Rattle.ca_stil_form.specs.Frame.{key_inputs, key_outputs, key_controls}
use Rattle.ca_stil_form.specs.Pattern.{PairValues, pair_form}

-- what is between a token's first and last byte
abbrev pub name_in : Token → List ℕ
name_in token = take (length token - 2) (drop 1 token)

-- a signal's name, and its direction
abbrev pub name_form : Form (List ℕ)
name_form = word is_name quoted name_in

abbrev pub direction_form : Form Bool
direction_form = word (λ input. true) direction_word (bytes_eq (codes "In"))

-- `"a" In;`
abbrev pub signal_form : Form Signal
signal_form =
    following (blank (codes "  "))
    (and_then name_form (λ name. following (blank (codes " ")) (before direction_form (fixed (codes ";\n")))))

-- `KEY = 'NAMES' ;`
abbrev pub group_form : Token → (Names → Bool) → Form Names
group_form key fits =
    following (blank (codes "  ") <> token key <> fixed (codes "="))
    (before (word fits group_word (quoted_from None)) (fixed (codes ";\n")))

-- the control ports, the scan-in ports, and as many scan-out ports
abbrev pub scan_form : List Signal → Form Scan
scan_form signals =
    and_then (group_form key_controls (fits_in_number 3 (names_of true signals))) (λ controls.
    and_then (group_form (codes "\"_si_\"") (fits_in_order (names_of true signals))) (λ scan_ins.
    group_form (codes "\"_so_\"") (fits_in_number (length scan_ins) (names_of false signals))))

-- the ports of a chain, with the chain's number
pub record Ports : Type 0 where
  pub number : ℕ
  pub scan_in : List ℕ
  pub scan_out : List ℕ

unfoldable pub numbered : ℕ → Names → Names → List Ports
numbered number [] scan_outs = []
numbered number (scan_in ∷ scan_ins) [] = []
numbered number (scan_in ∷ scan_ins) (scan_out ∷ scan_outs) =
    record { number = number; scan_in = scan_in; scan_out = scan_out }
    ∷ numbered (number + 1) scan_ins scan_outs

abbrev pub ports_of : Option Scan → List Ports
ports_of None = []
ports_of (Some scan) = numbered 0 scan.1.0 scan.1.1

-- a number of cells: digits, the first of which isn't 0
abbrev pub is_count : List ℕ → Bool
is_count [] = false
is_count (digit ∷ digits) = not (digit == 48) && list_all is_digit (digit ∷ digits)

-- a chain: its number of cells, between its ports
abbrev pub chain_begins : Ports → Piece
chain_begins ports =
    fixed (codes "  ScanChain ") <> token (quoted (codes "chain" ++ decimal ports.number))
    <> fixed (codes " {\n    ScanLength ")

abbrev pub chain_ends : Ports → Piece
chain_ends ports =
    fixed (codes ";\n    ScanIn ") <> token (quoted ports.scan_in) <> fixed (codes ";\n    ScanOut ")
    <> token (quoted ports.scan_out)
    <> fixed (codes ";\n  }\n")

abbrev pub chain_form : Ports → Form (List ℕ)
chain_form ports =
    following (chain_begins ports)
    (before (word is_count (λ digits. digits) (λ token. token)) (chain_ends ports))

-- the chains of these ports with these numbers of cells
unfoldable pub chains_of : List Ports → List (List ℕ) → List Chain
chains_of [] cells = []
chains_of (ports ∷ others) [] = []
chains_of (ports ∷ others) (digits ∷ cells) =
    record { scan_in = ports.scan_in; scan_out = ports.scan_out; cells = number_of digits }
    ∷ chains_of others cells

-- how many members a group has
abbrev pub size_of : Option Names → ℕ
size_of None = 0
size_of (Some names) = length names

abbrev pub frame_of : Option Names → Option Names → Option Scan → List (List ℕ) → Frame
frame_of inputs outputs scan cells =
    record { inputs = size_of inputs; outputs = size_of outputs; chains = chains_of (ports_of scan) cells }

-- the waveforms of the groups that are there
abbrev pub input_waves : Option Names → Piece
input_waves None = no_piece
input_waves (Some names) = fixed (codes "      \"_pi_\" { 01 { '0ns' D/U; } }\n")

abbrev pub output_waves : Option Names → Piece
output_waves None = no_piece
output_waves (Some names) = fixed (codes "      \"_po_\" { LHX { '0ns' X; '90ns' L/H/X; } }\n")

abbrev pub scan_waves : Option Scan → Piece
scan_waves None = no_piece
scan_waves (Some scan) =
    fixed (codes "      \"_ctl_\" { 01 { '0ns' D/U; } P { '0ns' D; '45ns' U; '55ns' D; } }\n")
    <> fixed (codes "      \"_si_\" { 01 { '0ns' D/U; } }\n")
    <> fixed (codes "      \"_so_\" { LHX { '0ns' X; '40ns' L/H/X; } }\n")

abbrev pub chains_begin : Option Scan → Piece
chains_begin None = no_piece
chains_begin (Some scan) = fixed (codes "ScanStructures {\n")

abbrev pub chains_end : Option Scan → Piece
chains_end None = no_piece
chains_end (Some scan) = fixed (codes "}\n")

-- the groups end, and the timing follows up to the chains
abbrev pub timing : Option Names → Option Names → Option Scan → Piece
timing inputs outputs scan =
    token (codes "}") <> fixed
    (codes "\nTiming {\n  WaveformTable \"_wft_\" {\n    Period '100ns';\n    Waveforms {\n")
    <> input_waves inputs <> output_waves outputs <> scan_waves scan
    <> fixed (codes "    }\n  }\n}\n") <> chains_begin scan

-- ` KEY=#;`
abbrev pub shifted : List ℕ → Piece
shifted name = blank (codes " ") <> token (quoted name) <> fixed (codes "=#;")

abbrev pub macro : Option Scan → Piece
macro None = no_piece
macro (Some scan) =
    fixed (codes "MacroDefs {\n  \"_shift_\" {\n    W \"_wft_\";\n    Shift {\n      V { \"_ctl_\"=1P1;")
    <> pieces shifted scan.1.0 <> pieces shifted scan.1.1 <> fixed (codes " }\n    }\n  }\n}\n")

-- the chains end, and all else follows up to the first pair
abbrev pub pattern_begins : Option Scan → Piece
pattern_begins scan = chains_end scan
    <> fixed (codes "PatternBurst \"_burst_\" {\n  PatList { \"_pattern_\"; }\n}\n"
    ++ codes "PatternExec {\n  PatternBurst \"_burst_\";\n}\n")
    <> macro scan <> fixed (codes "Pattern \"_pattern_\" {\n  W \"_wft_\";\n")

-- what follows the groups: the numbers of cells of the chains, and the pairs
abbrev pub Rest : Type 0
Rest = List (List ℕ) × List PairValues

abbrev pub rest_form : Option Names → Option Names → Option Scan → Form Rest
rest_form inputs outputs scan =
    following (timing inputs outputs scan) (and_then (for_each chain_form (ports_of scan)) (λ cells.
    following (pattern_begins scan)
    (items_until (codes "}") (codes "}\n") (pair_form (frame_of inputs outputs scan cells)) 0)))

abbrev pub Stil : Type 0
Stil = List Signal × (Option Names × (Option Names × (Option Scan × Rest)))

-- a group is known by its key, and may be left out; it is possible where some signal can be in it
abbrev pub scan_part : List Signal → Option Names → Option Names → Form (Option Scan × Rest)
scan_part signals inputs outputs =
    maybe (has_some true signals && has_some false signals) key_controls (scan_form signals)
    (rest_form inputs outputs)

abbrev pub outputs_part : List Signal → Option Names → Form (Option Names × (Option Scan × Rest))
outputs_part signals inputs =
    maybe (has_some false signals) key_outputs
    (group_form key_outputs (fits_in_order (names_of false signals))) (scan_part signals inputs)

abbrev pub inputs_part : List Signal → Form (Option Names × (Option Names × (Option Scan × Rest)))
inputs_part signals =
    maybe (has_some true signals) key_inputs (group_form key_inputs (fits_in_order (names_of true signals)))
    (outputs_part signals)

-- a whole text: the signals, the groups, and the rest
abbrev pub stil_form : Form Stil
stil_form =
    following (fixed (codes "STIL 1.0;\nSignals {\n"))
    (and_then (items_until (codes "}") (codes "}\n") (λ number. signal_form) 0) (λ signals.
    following (fixed (codes "SignalGroups {\n")) (inputs_part signals)))
