-- The STIL form allows the values of a linked chip, and its text reads as them.
use Rattle.std.proofs.Common.{◌≡◌, ℕ, ◌+◌, ◌<◌, ◌^◌, Bool, true, false, List, [], ◌∷◌, length, map}
use Rattle.std.proofs.Common.{length-append, ap, arith}
use Rattle.std.specs.Prelude.{Ok}
use Rattle.std.proofs.lemmas.List.{length-map}
use Rattle.std.proofs.lemmas.List.Elements.{All-map}
use Rattle.ca_net.specs.declared.trit.Trit.{Trit}
use Rattle.ca_cell.specs.Library.{Named}
use Rattle.ca_verilog.specs.declared.raw.RawNetlist.{RawNetlist}
use Rattle.ca_linked.specs.declared.parts.PortBit.{PortBit}
use Rattle.ca_linked.specs.Linked.{LinkedChip, inputs_of, outputs_of}
use Rattle.ca_linked.specs.Instances.{scans_of}
use Rattle.ca_wiring.specs.declared.scan_row.ScanRow.{ScanRow}
use Rattle.ca_scan.specs.ChainFault.{AreAllChains}
use Rattle.ca_stil.specs.declared.chip.Signal as code
use Rattle.ca_stil.specs.declared.chip.StilChip.{StilChip}
use Rattle.ca_stil.specs.Chip.{longest, AreOf}
use Rattle.ca_stil.specs.Text.{stil_text}
use Rattle.ca_stil_form.specs.Frame.{is_name}
use Rattle.ca_stil_form.specs.Tokens.{tokens_of}
use Rattle.ca_stil_form.specs.Reading.{whole}
use Rattle.ca_stil_form.specs.Whole.{stil_form}
use Rattle.ca_stil_form.specs.Value.{stil_value}
use Rattle.ca_stil_form.specs.Allowed.{HasScanGroupsIfAny, IsNamedChip, NamedValuesAreAllowed}
use Rattle.ca_chip_stil.specs.Laws.{SetSitesAreInputs, SeenSitesAreOutputs}
use Rattle.ca_chip_stil.specs.Sites.{AtPort, InScan, data_ports, sites_of, site_net}
use Rattle.ca_chip_stil.specs.ChipStil as chips
use Rattle.ca_chip_stil.specs.ChipStil.{signal_of, controls_of, chain_of, stil_chip, AreOfChip}
use Rattle.ca_stil_laws.specs.Laws.{IsNamedLink, ChipValuesAreAllowed, ChipTextIsRead}
use Rattle.ca_stil_laws.proofs.PortLemmas.{data_among}
use Rattle.ca_stil_laws.proofs.ChipLemmas.{chains_within, chains_short, scan_groups}

-- how many ends there are of each direction
pub site_count : (chip : LinkedChip) (input : Bool) (list : List ℕ) → map (site_net chip input) (sites_of chip input) ≡ list
    → length (chips.names_of (data_ports chip input)) + length (scans_of chip) ≡ length list
site_count chip input list are =
    let both = length-append (map AtPort (data_ports chip input)) (map InScan (scans_of chip)) in
    let ports = length-map (data_ports chip input) AtPort in
    let scans = length-map (scans_of chip) InScan in
    let named = length-map (data_ports chip input) (λ (port : PortBit). port.name) in
    let all = length-map (sites_of chip input) (site_net chip input) in
    let counted = ap length are in
    omega (arith, both, ports, scans, named, all, counted)

-- pairs and expected values of the chip are of its text
pub of_text : SetSitesAreInputs → SeenSitesAreOutputs → (chip : LinkedChip) (chains : List (List ℕ)) (pairs : List (List Bool)) (expected : List (List Trit))
    → AreOfChip chip chains pairs expected → AreOf (stil_chip chip chains) pairs expected
of_text set seen chip chains pairs expected of = record {
  chains = chains_within chip chains of.chains_are;
  bits = λ k d below.
      let given = of.bits k d below in
      let count = site_count chip true (inputs_of chip) (set chip) in
      omega (arith, given, count);
  values = λ k d below.
      let given = of.values k d below in
      let count = site_count chip false (outputs_of chip) (seen chip) in
      omega (arith, given, count);
  counted = of.counted;
}

pub short : (netlist : RawNetlist) (library : List Named) (scan : List ScanRow) (chip : LinkedChip) (chains : List (List ℕ))
    → IsNamedLink netlist library scan chip → AreAllChains chip chains → longest (map (chain_of chip) chains) < 2 ^ 64
short netlist library scan chip chains from all =
    let up_to = chains_short chip chains all in
    let few = from.few_parts in
    omega (arith, up_to, few)

-- the chip has the names and the groups of the form
named_chip : (netlist : RawNetlist) (library : List Named) (scan : List ScanRow) (chip : LinkedChip) (chains : List (List ℕ))
    → IsNamedLink netlist library scan chip → AreAllChains chip chains → IsNamedChip (stil_chip chip chains)
named_chip netlist library scan chip chains from all = record {
  named = All-map (λ (signal : code.Signal). is_name signal.name ≡ true) signal_of chip.ports from.named;
  inputs = data_among chip true chip.ports;
  outputs = data_among chip false chip.ports;
  scan = groups chains all;
}
  where
    groups : (given : List (List ℕ)) → AreAllChains chip given
        → HasScanGroupsIfAny (map signal_of chip.ports) (controls_of chip (scans_of chip)) (map (chain_of chip) given)
    groups [] all = tt
    groups (chain ∷ more) all = scan_groups netlist library scan chip from.kept from.link chain more all

pub values_allowed : SetSitesAreInputs → SeenSitesAreOutputs → NamedValuesAreAllowed → ChipValuesAreAllowed
values_allowed set seen allowed netlist library scan chip chains pairs expected from of =
    allowed (stil_chip chip chains) pairs expected (named_chip netlist library scan chip chains from of.chains_are)
    (short netlist library scan chip chains from of.chains_are) (of_text set seen chip chains pairs expected of)

pub text_read : SetSitesAreInputs → SeenSitesAreOutputs → ChipValuesAreAllowed
    → ((chip : StilChip) (pairs : List (List Bool)) (expected : List (List Trit)) → longest chip.chains < 2 ^ 64 → AreOf chip pairs expected
    → stil_form.allowed (stil_value chip pairs expected) ≡ true
    → whole stil_form (tokens_of (stil_text chip pairs expected)) ≡ Ok (stil_value chip pairs expected))
    → ChipTextIsRead
text_read set seen allowed reads netlist library scan chip chains pairs expected from of =
    reads (stil_chip chip chains) pairs expected (short netlist library scan chip chains from of.chains_are)
    (of_text set seen chip chains pairs expected of) (allowed netlist library scan chip chains pairs expected from of)
