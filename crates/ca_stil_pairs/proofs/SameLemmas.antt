-- What is compared is the same exactly where the comparison says so.
use Rattle.std.proofs.Common.{◌≡◌, ℕ, Bool, true, false, ◌&&◌, List, [], ◌∷◌, length, map, ap, sym, ◌∙◌, refl}
use Rattle.std.specs.Prelude.{Option, Some, None, decimal}
use Rattle.std.specs.Str.{bytes_eq}
use Rattle.std.proofs.lemmas.Slice.Eq.{bytes_eq-Decides}
use Rattle.ca_stil.specs.declared.chip.Signal.{Signal}
use Rattle.ca_stil.specs.declared.chip.StilChain.{StilChain}
use Rattle.ca_stil.specs.declared.chip.StilChip.{StilChip}
use Rattle.ca_stil_form.specs.Frame.{Scan}
use Rattle.ca_stil_form.specs.Value.{signal_seen, group_of, scan_of}
use Rattle.ca_stil_form.proofs.FormLemmas.{left_true, right_true}
use Rattle.ca_stil_read.specs.declared.groups.ScanGroups.{ScanGroups}
use Rattle.ca_stil_read.specs.declared.read.StilText.{StilText}
use Rattle.ca_stil_read.specs.Groups.{scan_in, scan_seen}
use Rattle.ca_stil_pairs.specs.Chip.{ChipPart, part_of}
use Rattle.ca_stil_pairs.specs.code.Same.{bool_eq, signals_eq, names_eq, scan_ins_eq, scan_outs_eq, cells_eq}
use Rattle.ca_stil_pairs.specs.code.Same.{group_eq, scan_eq, text_eq}

text_true : (one other : List ℕ) → bytes_eq one other ≡ true → one ≡ other
text_true one other is = (bytes_eq-Decides one other).0 is

text_is : (one other : List ℕ) → one ≡ other → bytes_eq one other ≡ true
text_is one other is = (bytes_eq-Decides one other).1 is

bool_true : (one other : Bool) → bool_eq one other ≡ true → one ≡ other
bool_true true other is = sym is
bool_true false true is = absurd cc
bool_true false false is = refl

bool_is : (one other : Bool) → one ≡ other → bool_eq one other ≡ true
bool_is true other is = sym is
bool_is false true is = absurd cc
bool_is false false is = refl

-- the names
names_true : (names others : List (List ℕ)) → names_eq names others ≡ true → names ≡ others
unfolding names_eq
names_true [] [] is = refl
names_true [] (other ∷ others) is = absurd cc
names_true (name ∷ names) [] is = absurd cc
names_true (name ∷ names) (other ∷ others) is =
    let here = text_true name other (left_true (bytes_eq name other) (names_eq names others) is) in
    let later = names_true names others (right_true (bytes_eq name other) (names_eq names others) is) in
    λ j. here j ∷ later j

names_is : (names others : List (List ℕ)) → names ≡ others → names_eq names others ≡ true
unfolding names_eq
names_is [] [] is = refl
names_is [] (other ∷ others) is = absurd cc
names_is (name ∷ names) [] is = absurd cc
names_is (name ∷ names) (other ∷ others) is =
    let here = text_is name other cc in
    let later = names_is names others cc in
    λ j. here j && later j

-- the ports and the numbers of cells of the chains
ins_same : (names : List (List ℕ)) (chains : List StilChain)
    → scan_ins_eq names chains ≡ names_eq names (map (λ chain. chain.scan_in) chains)
unfolding scan_ins_eq names_eq
ins_same [] [] = refl
ins_same [] (chain ∷ chains) = refl
ins_same (name ∷ names) [] = refl
ins_same (name ∷ names) (chain ∷ chains) = ap (λ (rest : Bool). bytes_eq name chain.scan_in && rest) (ins_same names chains)

outs_same : (names : List (List ℕ)) (chains : List StilChain)
    → scan_outs_eq names chains ≡ names_eq names (map (λ chain. chain.scan_out) chains)
unfolding scan_outs_eq names_eq
outs_same [] [] = refl
outs_same [] (chain ∷ chains) = refl
outs_same (name ∷ names) [] = refl
outs_same (name ∷ names) (chain ∷ chains) = ap (λ (rest : Bool). bytes_eq name chain.scan_out && rest) (outs_same names chains)

cells_same : (cells : List (List ℕ)) (chains : List StilChain)
    → cells_eq cells chains ≡ names_eq cells (map (λ chain. decimal (length chain.places)) chains)
unfolding cells_eq names_eq
cells_same [] [] = refl
cells_same [] (chain ∷ chains) = refl
cells_same (digits ∷ cells) [] = refl
cells_same (digits ∷ cells) (chain ∷ chains) =
    ap (λ (rest : Bool). bytes_eq digits (decimal (length chain.places)) && rest) (cells_same cells chains)

-- the signals
signals_true : (signals others : List Signal) → signals_eq signals others ≡ true → map signal_seen signals ≡ map signal_seen others
unfolding signals_eq
signals_true [] [] is = refl
signals_true [] (other ∷ others) is = absurd cc
signals_true (signal ∷ signals) [] is = absurd cc
signals_true (signal ∷ signals) (other ∷ others) is =
    let more : Bool = bool_eq signal.is_input other.is_input && signals_eq signals others in
    let rest = right_true (bytes_eq signal.name other.name) more is in
    let name = text_true signal.name other.name (left_true (bytes_eq signal.name other.name) more is) in
    let goes = bool_true signal.is_input other.is_input (left_true (bool_eq signal.is_input other.is_input) (signals_eq signals others) rest) in
    let later = signals_true signals others (right_true (bool_eq signal.is_input other.is_input) (signals_eq signals others) rest) in
    λ j. (name j, goes j) ∷ later j

signals_is : (signals others : List Signal) → map signal_seen signals ≡ map signal_seen others → signals_eq signals others ≡ true
unfolding signals_eq
signals_is [] [] is = refl
signals_is [] (other ∷ others) is = absurd cc
signals_is (signal ∷ signals) [] is = absurd cc
signals_is (signal ∷ signals) (other ∷ others) is =
    let both : signal_seen signal ≡ signal_seen other = cc in
    let name = text_is signal.name other.name (ap (λ (seen : List ℕ × Bool). seen.0) both) in
    let goes = bool_is signal.is_input other.is_input (ap (λ (seen : List ℕ × Bool). seen.1) both) in
    let later = signals_is signals others cc in
    λ j. name j && (goes j && later j)

-- the groups
group_true : (group : Option (List (List ℕ))) (names : List (List ℕ)) → group_eq group names ≡ true → group ≡ group_of names
group_true None [] is = refl
group_true None (name ∷ names) is = absurd cc
group_true (Some members) [] is = absurd cc
group_true (Some members) (name ∷ names) is = ap (λ (given : List (List ℕ)). Some given) (names_true members (name ∷ names) is)

group_is : (group : Option (List (List ℕ))) (names : List (List ℕ)) → group ≡ group_of names → group_eq group names ≡ true
group_is None [] is = refl
group_is None (name ∷ names) is = absurd cc
group_is (Some members) [] is = absurd cc
group_is (Some members) (name ∷ names) is = names_is members (name ∷ names) cc

scan_true : (groups : Option ScanGroups) (controls : List (List ℕ)) (chains : List StilChain) → scan_eq groups controls chains ≡ true
    → scan_in groups ≡ scan_of controls chains
scan_true None controls [] is = refl
scan_true None controls (chain ∷ chains) is = absurd cc
scan_true (Some groups) controls [] is = absurd cc
scan_true (Some groups) controls (chain ∷ chains) is =
    let ins : Bool = scan_ins_eq groups.scan_ins (chain ∷ chains) in
    let outs : Bool = scan_outs_eq groups.scan_outs (chain ∷ chains) in
    let rest = right_true (names_eq groups.controls controls) (ins && outs) is in
    let first = names_true groups.controls controls (left_true (names_eq groups.controls controls) (ins && outs) is) in
    let second = names_true groups.scan_ins _ (sym (ins_same groups.scan_ins (chain ∷ chains)) ∙ left_true ins outs rest) in
    let third = names_true groups.scan_outs _ (sym (outs_same groups.scan_outs (chain ∷ chains)) ∙ right_true ins outs rest) in
    λ j. Some (first j, (second j, third j))

scan_is : (groups : Option ScanGroups) (controls : List (List ℕ)) (chains : List StilChain)
    → scan_in groups ≡ scan_of controls chains → scan_eq groups controls chains ≡ true
scan_is None controls [] is = refl
scan_is None controls (chain ∷ chains) is = absurd cc
scan_is (Some groups) controls [] is = absurd cc
scan_is (Some groups) controls (chain ∷ chains) is =
    let all : scan_seen groups ≡ (controls, (map (λ one. one.scan_in) (chain ∷ chains), map (λ one. one.scan_out) (chain ∷ chains))) = cc in
    let first = names_is groups.controls controls (ap (λ (scan : Scan). scan.0) all) in
    let second = ins_same groups.scan_ins (chain ∷ chains)
    ∙ names_is groups.scan_ins (map (λ one. one.scan_in) (chain ∷ chains)) (ap (λ (scan : Scan). scan.1.0) all) in
    let third = outs_same groups.scan_outs (chain ∷ chains)
    ∙ names_is groups.scan_outs (map (λ one. one.scan_out) (chain ∷ chains)) (ap (λ (scan : Scan). scan.1.1) all) in
    λ j. first j && (second j && third j)

-- what a text says of its chip
abbrev pub text_part : StilText → ChipPart
text_part text = (map signal_seen text.signals, (text.groups.inputs, (text.groups.outputs, (scan_in text.groups.scan, text.cells))))

pub part_true : (text : StilText) (chip : StilChip) → text_eq text chip ≡ true → text_part text ≡ part_of chip
part_true text chip is =
    let one : Bool = signals_eq text.signals chip.signals in
    let two : Bool = group_eq text.groups.inputs chip.inputs in
    let three : Bool = group_eq text.groups.outputs chip.outputs in
    let four : Bool = scan_eq text.groups.scan chip.controls chip.chains in
    let five : Bool = cells_eq text.cells chip.chains in
    let after_one = right_true one (two && (three && (four && five))) is in
    let after_two = right_true two (three && (four && five)) after_one in
    let after_three = right_true three (four && five) after_two in
    let signals = signals_true text.signals chip.signals (left_true one (two && (three && (four && five))) is) in
    let inputs = group_true text.groups.inputs chip.inputs (left_true two (three && (four && five)) after_one) in
    let outputs = group_true text.groups.outputs chip.outputs (left_true three (four && five) after_two) in
    let scan = scan_true text.groups.scan chip.controls chip.chains (left_true four five after_three) in
    let cells = names_true text.cells _ (sym (cells_same text.cells chip.chains) ∙ right_true four five after_three) in
    λ j. (signals j, (inputs j, (outputs j, (scan j, cells j))))

pub part_is : (text : StilText) (chip : StilChip) → text_part text ≡ part_of chip → text_eq text chip ≡ true
part_is text chip is =
    let signals = signals_is text.signals chip.signals (ap (λ (part : ChipPart). part.0) is) in
    let inputs = group_is text.groups.inputs chip.inputs (ap (λ (part : ChipPart). part.1.0) is) in
    let outputs = group_is text.groups.outputs chip.outputs (ap (λ (part : ChipPart). part.1.1.0) is) in
    let scan = scan_is text.groups.scan chip.controls chip.chains (ap (λ (part : ChipPart). part.1.1.1.0) is) in
    let cells = cells_same text.cells chip.chains ∙ names_is text.cells _ (ap (λ (part : ChipPart). part.1.1.1.1) is) in
    λ j. signals j && (inputs j && (outputs j && (scan j && cells j)))
