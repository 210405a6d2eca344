-- The blocks of a chip's text are those of the form.
use Rattle.std.proofs.Common.{◌≡◌, ℕ, ◌+◌, Bool, true}
use Rattle.std.proofs.Common.{List, [], ◌∷◌, ◌++◌, ◌∙◌, length, map, ap, append_assoc}
use Rattle.std.proofs.Common.{sym, refl, codes}
use Rattle.std.specs.Prelude.{decimal, Option}
use Rattle.std.specs.List.{flat_map}
use Rattle.ca_stil.specs.declared.chip.Signal as code
use Rattle.ca_stil.specs.declared.chip.StilChain.{StilChain}
use Rattle.ca_stil.specs.declared.chip.StilChip.{StilChip}
use Rattle.ca_stil.specs.declared.chip.End.{End}
use Rattle.ca_stil.specs.declared.chip.End.TheVariants as at
use Rattle.ca_stil.specs.Chip.{end_of, ends_of}
use Rattle.ca_stil.specs.Groups.{signal_text, group_text, group_if_any, scan_groups_text, scan_groups_if_any}
use Rattle.ca_stil.specs.Frame as frame
use Rattle.ca_stil_form.specs.Grammar.{text_until, text_each, pieces}
use Rattle.ca_stil_form.specs.Frame.{Signal, Names, Scan, quoted, joined}
use Rattle.ca_stil_form.specs.Whole.{Rest, Ports, signal_form, group_form, scan_form, inputs_part}
use Rattle.ca_stil_form.specs.Whole.{outputs_part, scan_part, rest_form, numbered, ports_of}
use Rattle.ca_stil_form.specs.Whole.{chain_form, input_waves, output_waves, scan_waves}
use Rattle.ca_stil_form.specs.Whole.{chains_begin, chains_end, shifted, macro}
use Rattle.ca_stil_form.specs.Value.{signal_seen, group_of, scan_of}

-- the lines of the signals
pub signals_same : (number : ℕ) (signals : List code.Signal)
    → text_until (codes "}\n") (λ (number : ℕ). signal_form.text) number (map signal_seen signals)
    ≡ flat_map signal_text signals ++ codes "}\n"
unfolding text_until signal_text
signals_same number [] = refl
signals_same number (signal ∷ signals) =
    ap (λ (rest : List ℕ). signal_form.text (signal_seen signal) ++ rest) (signals_same (number + 1) signals)
    ∙ sym (append_assoc (signal_form.text (signal_seen signal)) (flat_map signal_text signals) (codes "}\n"))

-- the line of a group
inputs_line : (fits : Names → Bool) (names : Names)
    → (group_form (codes "\"_pi_\"") fits).text names ≡ group_text (codes "_pi_") names
unfolding group_text
inputs_line fits names = ap (λ (text : List ℕ). codes "  \"_pi_\"='" ++ text) (append_assoc (joined names) (codes "'") (codes ";\n"))

outputs_line : (fits : Names → Bool) (names : Names)
    → (group_form (codes "\"_po_\"") fits).text names ≡ group_text (codes "_po_") names
unfolding group_text
outputs_line fits names = ap (λ (text : List ℕ). codes "  \"_po_\"='" ++ text) (append_assoc (joined names) (codes "'") (codes ";\n"))

controls_line : (fits : Names → Bool) (names : Names)
    → (group_form (codes "\"_ctl_\"") fits).text names ≡ group_text (codes "_ctl_") names
unfolding group_text
controls_line fits names = ap (λ (text : List ℕ). codes "  \"_ctl_\"='" ++ text) (append_assoc (joined names) (codes "'") (codes ";\n"))

scan_ins_line : (fits : Names → Bool) (names : Names)
    → (group_form (codes "\"_si_\"") fits).text names ≡ group_text (codes "_si_") names
unfolding group_text
scan_ins_line fits names = ap (λ (text : List ℕ). codes "  \"_si_\"='" ++ text) (append_assoc (joined names) (codes "'") (codes ";\n"))

scan_outs_line : (fits : Names → Bool) (names : Names)
    → (group_form (codes "\"_so_\"") fits).text names ≡ group_text (codes "_so_") names
unfolding group_text
scan_outs_line fits names = ap (λ (text : List ℕ). codes "  \"_so_\"='" ++ text) (append_assoc (joined names) (codes "'") (codes ";\n"))

-- the lines of the scan groups
scan_lines : (signals : List Signal) (controls : Names) (chains : List StilChain)
    → (scan_form signals).text (controls, (ends_of at.In chains, ends_of at.Out chains)) ≡ scan_groups_text controls chains
unfolding scan_groups_text
scan_lines signals controls chains =
    let first = controls_line (λ names. true) controls in
    let second = scan_ins_line (λ names. true) (ends_of at.In chains) in
    let third = scan_outs_line (λ names. true) (ends_of at.Out chains) in
    (λ j. first j ++ (second j ++ third j))

scan_same : (signals : List Signal) (inputs outputs : Option Names) (controls : Names) (chains : List StilChain) (rest : Rest)
    → (scan_part signals inputs outputs).text (scan_of controls chains, rest)
    ≡ scan_groups_if_any controls chains ++ (rest_form inputs outputs (scan_of controls chains)).text rest
scan_same signals inputs outputs controls [] rest = refl
scan_same signals inputs outputs controls (chain ∷ chains) rest =
    ap (λ (text : List ℕ). text ++ (rest_form inputs outputs (scan_of controls (chain ∷ chains))).text rest)
    (scan_lines signals controls (chain ∷ chains))

outputs_same : (signals : List Signal) (inputs : Option Names) (outputs : Names) (scan : Option Scan) (rest : Rest)
    → (outputs_part signals inputs).text (group_of outputs, (scan, rest))
    ≡ group_if_any (codes "_po_") outputs ++ (scan_part signals inputs (group_of outputs)).text (scan, rest)
outputs_same signals inputs [] scan rest = refl
outputs_same signals inputs (name ∷ names) scan rest =
    ap (λ (text : List ℕ). text ++ (scan_part signals inputs (group_of (name ∷ names))).text (scan, rest))
    (outputs_line (λ names. true) (name ∷ names))

inputs_same : (signals : List Signal) (inputs : Names) (outputs : Option Names) (scan : Option Scan) (rest : Rest)
    → (inputs_part signals).text (group_of inputs, (outputs, (scan, rest)))
    ≡ group_if_any (codes "_pi_") inputs ++ (outputs_part signals (group_of inputs)).text (outputs, (scan, rest))
inputs_same signals [] outputs scan rest = refl
inputs_same signals (name ∷ names) outputs scan rest =
    ap (λ (text : List ℕ). text ++ (outputs_part signals (group_of (name ∷ names))).text (outputs, (scan, rest)))
    (inputs_line (λ names. true) (name ∷ names))

-- the lines of all groups, with what follows them
pub groups_same : (chip : StilChip) (rest : Rest)
    → (inputs_part (map signal_seen chip.signals)).text
    (group_of chip.inputs, (group_of chip.outputs, (scan_of chip.controls chip.chains, rest)))
    ≡ group_if_any (codes "_pi_") chip.inputs ++ (group_if_any (codes "_po_") chip.outputs
    ++ (scan_groups_if_any chip.controls chip.chains
    ++ (rest_form (group_of chip.inputs) (group_of chip.outputs) (scan_of chip.controls chip.chains)).text rest))
groups_same chip rest =
    let signals : List Signal = map signal_seen chip.signals in
    let first : List ℕ = group_if_any (codes "_pi_") chip.inputs in
    let second : List ℕ = group_if_any (codes "_po_") chip.outputs in
    inputs_same signals chip.inputs (group_of chip.outputs) (scan_of chip.controls chip.chains) rest
    ∙ (ap (λ (text : List ℕ). first ++ text)
    (outputs_same signals (group_of chip.inputs) chip.outputs (scan_of chip.controls chip.chains) rest)
    ∙ ap (λ (text : List ℕ). first ++ (second ++ text))
    (scan_same signals (group_of chip.inputs) (group_of chip.outputs) chip.controls chip.chains rest))

-- the waveforms
pub input_waves_same : (names : Names) → (input_waves (group_of names)).text ≡ frame.input_waves names
unfolding frame.input_waves
input_waves_same [] = refl
input_waves_same (name ∷ names) = refl

pub output_waves_same : (names : Names) → (output_waves (group_of names)).text ≡ frame.output_waves names
unfolding frame.output_waves
output_waves_same [] = refl
output_waves_same (name ∷ names) = refl

pub scan_waves_same : (controls : Names) (chains : List StilChain)
    → (scan_waves (scan_of controls chains)).text ≡ frame.scan_waves chains
unfolding frame.scan_waves
scan_waves_same controls [] = refl
scan_waves_same controls (chain ∷ chains) = refl

-- the block of a chain
abbrev pub ports_seen : ℕ → StilChain → Ports
ports_seen number chain = record { number = number; scan_in = chain.scan_in; scan_out = chain.scan_out }

abbrev pub count_of : StilChain → List ℕ
count_of chain = decimal (length chain.places)

flat : (a b c d e f g h i k l m n : List ℕ)
    → (a ++ (b ++ (c ++ d))) ++ (e ++ ((f ++ g) ++ (h ++ ((i ++ k) ++ (l ++ (m ++ n))))))
    ≡ (a ++ (b ++ c)) ++ ((d ++ (e ++ f)) ++ ((g ++ (h ++ i)) ++ ((k ++ (l ++ m)) ++ n)))
flat a b c d e f g h i k l m n =
    let all : List ℕ = a ++ (b ++ (c ++ (d ++ (e ++ (f ++ (g ++ (h ++ (i ++ (k ++ (l ++ (m ++ n))))))))))) in
    let one : (a ++ (b ++ (c ++ d))) ++ (e ++ ((f ++ g) ++ (h ++ ((i ++ k) ++ (l ++ (m ++ n)))))) ≡ all =
    simp append_assoc in
    let other : (a ++ (b ++ c)) ++ ((d ++ (e ++ f)) ++ ((g ++ (h ++ i)) ++ ((k ++ (l ++ m)) ++ n))) ≡ all =
    simp append_assoc in
    one ∙ sym other

chain_same : (number : ℕ) (chain : StilChain)
    → (chain_form (ports_seen number chain)).text (count_of chain) ≡ frame.chain_text number chain
unfolding frame.chain_text frame.chain_begins frame.length_line frame.port_line
chain_same number chain =
    flat (codes "  ScanChain ") (quoted (codes "chain" ++ decimal number)) (codes " {\n") (codes "    ScanLength ")
    (count_of chain) (codes ";\n") (codes "    ScanIn ") (quoted chain.scan_in) (codes ";\n") (codes "    ScanOut ")
    (quoted chain.scan_out) (codes ";\n") (codes "  }\n")

numbered_same : (number : ℕ) (chains : List StilChain)
    → text_each (λ ports. (chain_form ports).text) (numbered number (ends_of at.In chains) (ends_of at.Out chains))
    (map count_of chains)
    ≡ frame.chains_text number chains
unfolding text_each numbered frame.chains_text
numbered_same number [] = refl
numbered_same number (chain ∷ chains) =
    let here = chain_same number chain in
    let rest = numbered_same (number + 1) chains in
    (λ j. here j ++ rest j)

-- the blocks of the chains, between what begins and what ends them
pub structures_same : (controls : Names) (chains : List StilChain)
    → (chains_begin (scan_of controls chains)).text
    ++ (text_each (λ ports. (chain_form ports).text) (ports_of (scan_of controls chains)) (map count_of chains)
    ++ (chains_end (scan_of controls chains)).text)
    ≡ frame.structures_text chains
unfolding text_each frame.structures_of_text
structures_same controls [] = refl
structures_same controls (chain ∷ chains) =
    ap (λ (text : List ℕ). codes "ScanStructures {\n" ++ (text ++ codes "}\n")) (numbered_same 0 (chain ∷ chains))

-- the ports as they are shifted
shifted_same : (end : End) (chains : List StilChain) → (pieces shifted (ends_of end chains)).text ≡ frame.shifted_text end chains
unfolding pieces frame.shifted_text
shifted_same end [] = refl
shifted_same end (chain ∷ chains) =
    let name : List ℕ = quoted (end_of end chain) in
    let rest : List ℕ = frame.shifted_text end chains in
    ap (λ (text : List ℕ). (codes " " ++ (name ++ codes "=#;")) ++ text) (shifted_same end chains)
    ∙ (append_assoc (codes " ") (name ++ codes "=#;") rest
    ∙ ap (λ (text : List ℕ). codes " " ++ text) (append_assoc name (codes "=#;") rest))

pub macro_same : (controls : Names) (chains : List StilChain)
    → (macro (scan_of controls chains)).text ≡ frame.macro_text chains
unfolding frame.macro_of_text
macro_same controls [] = refl
macro_same controls (chain ∷ chains) =
    let ins = shifted_same at.In (chain ∷ chains) in
    let outs = shifted_same at.Out (chain ∷ chains) in
    (λ j. codes "MacroDefs {\n  \"_shift_\" {\n    W \"_wft_\";\n    Shift {\n      V { \"_ctl_\"=1P1;"
    ++ (ins j ++ (outs j ++ codes " }\n    }\n  }\n}\n")))
