-- Whether what a text has is what a chip has, by comparing one after another.
use Rattle.std.specs.Prelude.{ℕ, Bool, true, false, ◌&&◌, List, [], ◌∷◌, length, decimal, Option, Some, None}
use Rattle.std.specs.Str.{bytes_eq}
use Rattle.ca_stil.specs.declared.chip.Signal.{Signal}
use Rattle.ca_stil.specs.declared.chip.StilChain.{StilChain}
use Rattle.ca_stil.specs.declared.chip.StilChip.{StilChip}
use Rattle.ca_stil_read.specs.declared.groups.ScanGroups.{ScanGroups}
use Rattle.ca_stil_read.specs.declared.read.StilText.{StilText}

-- both are the same
abbrev pub bool_eq : Bool → Bool → Bool
bool_eq true other = other
bool_eq false true = false
bool_eq false false = true

unfoldable pub signals_eq : List Signal → List Signal → Bool
signals_eq [] [] = true
signals_eq [] (other ∷ others) = false
signals_eq (signal ∷ signals) [] = false
signals_eq (signal ∷ signals) (other ∷ others) =
    bytes_eq signal.name other.name && (bool_eq signal.is_input other.is_input && signals_eq signals others)

unfoldable pub names_eq : List (List ℕ) → List (List ℕ) → Bool
names_eq [] [] = true
names_eq [] (other ∷ others) = false
names_eq (name ∷ names) [] = false
names_eq (name ∷ names) (other ∷ others) = bytes_eq name other && names_eq names others

-- the names are those of the scan-in ports, or of the scan-out ports
unfoldable pub scan_ins_eq : List (List ℕ) → List StilChain → Bool
scan_ins_eq [] [] = true
scan_ins_eq [] (chain ∷ chains) = false
scan_ins_eq (name ∷ names) [] = false
scan_ins_eq (name ∷ names) (chain ∷ chains) = bytes_eq name chain.scan_in && scan_ins_eq names chains

unfoldable pub scan_outs_eq : List (List ℕ) → List StilChain → Bool
scan_outs_eq [] [] = true
scan_outs_eq [] (chain ∷ chains) = false
scan_outs_eq (name ∷ names) [] = false
scan_outs_eq (name ∷ names) (chain ∷ chains) = bytes_eq name chain.scan_out && scan_outs_eq names chains

-- the digits are those of the chains' numbers of cells
unfoldable pub cells_eq : List (List ℕ) → List StilChain → Bool
cells_eq [] [] = true
cells_eq [] (chain ∷ chains) = false
cells_eq (digits ∷ cells) [] = false
cells_eq (digits ∷ cells) (chain ∷ chains) =
    bytes_eq digits (decimal (length chain.places)) && cells_eq cells chains

-- a group that may be left out has these members, or there are none
abbrev pub group_eq : Option (List (List ℕ)) → List (List ℕ) → Bool
group_eq None [] = true
group_eq None (name ∷ names) = false
group_eq (Some members) [] = false
group_eq (Some members) (name ∷ names) = names_eq members (name ∷ names)

-- the scan groups are those of the control ports and of the chains
abbrev pub scan_groups_eq : ScanGroups → List (List ℕ) → List StilChain → Bool
scan_groups_eq groups controls chains =
    names_eq groups.controls controls
    && (scan_ins_eq groups.scan_ins chains && scan_outs_eq groups.scan_outs chains)

abbrev pub scan_eq : Option ScanGroups → List (List ℕ) → List StilChain → Bool
scan_eq None controls [] = true
scan_eq None controls (chain ∷ chains) = false
scan_eq (Some groups) controls [] = false
scan_eq (Some groups) controls (chain ∷ chains) = scan_groups_eq groups controls (chain ∷ chains)

-- the signals, the groups and the chains of the text are those of the chip
abbrev pub text_eq : StilText → StilChip → Bool
text_eq text chip =
    signals_eq text.signals chip.signals
    && (group_eq text.groups.inputs chip.inputs && (group_eq text.groups.outputs chip.outputs
    && (scan_eq text.groups.scan chip.controls chip.chains && cells_eq text.cells chip.chains)))
