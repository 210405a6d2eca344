-- Which chips have values that the form allows: the names are names of the form, the groups have signals in
-- their order, and the chains have cells.
use Rattle.std.specs.Prelude.{◌≡◌, ◌^◌, ◌<◌, ◌≤◌, Bool, true, false, List, [], ◌∷◌, length, map, ⊤}
use Rattle.std.specs.List.{All}
use Rattle.ca_net.specs.declared.trit.Trit.{Trit}
use Rattle.ca_stil.specs.declared.chip.Signal as code
use Rattle.ca_stil.specs.declared.chip.StilChain.{StilChain}
use Rattle.ca_stil.specs.declared.chip.StilChip.{StilChip}
use Rattle.ca_stil.specs.Chip.{longest, AreOf}
use Rattle.ca_stil_form.specs.Frame.{Names, is_name, names_of, is_among, all_in}
use Rattle.ca_stil_form.specs.Whole.{stil_form}
use Rattle.ca_stil_form.specs.Value.{signal_seen, stil_value}

-- the names of the signals of one direction, in order
abbrev pub signal_names : Bool → List code.Signal → Names
signal_names input signals = names_of input (map signal_seen signals)

-- the three control ports are inputs, each scan-in port is one, in the order of the chains, and each scan-out
-- port is an output; each chain has cells
pub record HasScanGroups (signals : List code.Signal) (controls : Names)
    (chains : List StilChain) : Type 0 where
  pub counted : length controls ≡ 3
  pub controls_in : all_in (signal_names true signals) controls ≡ true
  pub scan_ins : is_among (map (λ chain. chain.scan_in) chains) (signal_names true signals) ≡ true
  pub scan_outs : all_in (signal_names false signals) (map (λ chain. chain.scan_out) chains) ≡ true
  pub cells : All (λ chain. 1 ≤ length chain.places) chains

-- the same of a chip that may have no chains
abbrev pub HasScanGroupsIfAny : List code.Signal → Names → List StilChain → Type 0
HasScanGroupsIfAny signals controls [] = ⊤
HasScanGroupsIfAny signals controls (chain ∷ chains) = HasScanGroups signals controls (chain ∷ chains)

-- each signal has a name of the form; the chip inputs and the observed outputs are signals, in their order;
-- and so it is with the scan groups
pub record IsNamedChip (chip : StilChip) : Type 0 where
  pub named : All (λ signal. is_name signal.name ≡ true) chip.signals
  pub inputs : is_among chip.inputs (signal_names true chip.signals) ≡ true
  pub outputs : is_among chip.outputs (signal_names false chip.signals) ≡ true
  pub scan : HasScanGroupsIfAny chip.signals chip.controls chip.chains

-- the form allows the values of such a chip, of its pairs and of their expected values
abbrev pub NamedValuesAreAllowed : Type 0
NamedValuesAreAllowed = (chip : StilChip) (pairs : List (List Bool)) (expected : List (List Trit))
    → IsNamedChip chip → longest chip.chains < 2 ^ 64 → AreOf chip pairs expected
    → stil_form.allowed (stil_value chip pairs expected) ≡ true
