-- What the STIL text of a linked chip's pairs needs of the chip and of its whole scan chains.
use Rattle.std.specs.Prelude.{ℕ, ◌+◌, ◌-◌, ◌≡◌, Bool, true, false, eqb, List, [], ◌∷◌, length, map, Option}
use Rattle.std.specs.Prelude.{Some, None, slice_get, slice_index, if◌then◌else◌}
use Rattle.std.specs.List.{All, position_or_len}
use Rattle.ca_net.specs.declared.trit.Trit.{Trit}
use Rattle.ca_linked.specs.declared.pins.ScanPin.{ScanPin}
use Rattle.ca_linked.specs.declared.pins.ScanPin.TheVariants.{Si, So, Se, Ck, Hold}
use Rattle.ca_linked.specs.declared.parts.Body.{Body}
use Rattle.ca_linked.specs.declared.parts.Body.TheVariants.{Gate, Scan}
use Rattle.ca_linked.specs.declared.parts.Part.{Part}
use Rattle.ca_linked.specs.declared.parts.PortBit.{PortBit}
use Rattle.ca_linked.specs.Linked.{LinkedChip, inputs_of, outputs_of}
use Rattle.ca_linked.specs.Paths.{is_port_on}
use Rattle.ca_linked.specs.Instances.{net_of_pin, scans_of}
use Rattle.ca_scan.specs.ChainFault.{AreAllChains}
use Rattle.ca_stil.specs.declared.chip.Signal.{Signal}
use Rattle.ca_stil.specs.declared.chip.StilChain.{StilChain}
use Rattle.ca_stil.specs.declared.chip.StilChip.{StilChip}
use Rattle.ca_chip_stil.specs.Sites.{data_ports}

-- a bit of a port, with its name and its direction
abbrev pub signal_of : PortBit → Signal
signal_of port = record { name = port.name; is_input = port.is_input }

-- the names of port bits
abbrev pub names_of : List PortBit → List (List ℕ)
names_of ports = map (λ port. port.name) ports

-- the first bit of a port of this direction that is on the net, if there is one
unfoldable pub port_on : Bool → ℕ → List PortBit → Option PortBit
port_on input net [] = None
port_on input net (port ∷ ports) = if is_port_on input net port then Some port else port_on input net ports

-- the name of a port bit, if there is one
abbrev pub name_of : Option PortBit → List ℕ
name_of None = []
name_of (Some port) = port.name

-- the name of the port of this direction at a pin of a scan instance
abbrev pub name_at_body : LinkedChip → Bool → ScanPin → Body → List ℕ
name_at_body chip input pin (Gate cell inputs outputs) = []
name_at_body chip input pin (Scan nets) = name_of (port_on input (net_of_pin nets pin) chip.ports)

abbrev pub name_at_part : LinkedChip → Bool → ScanPin → Option Part → List ℕ
name_at_part chip input pin None = []
name_at_part chip input pin (Some part) = name_at_body chip input pin part.body

abbrev pub name_at : LinkedChip → Bool → ScanPin → ℕ → List ℕ
name_at chip input pin u = name_at_part chip input pin (slice_get chip.parts u)

-- the names of the ports of the scan enable, the clock and the hold, which all scan instances share: those
-- of the first one
abbrev pub controls_of : LinkedChip → List ℕ → List (List ℕ)
controls_of chip [] = []
controls_of chip (u ∷ scans) = name_at chip true Se u ∷ name_at chip true Ck u ∷ name_at chip true Hold u ∷ []

-- the place of a scan instance among the scan instances, in netlist order
abbrev pub place_of : LinkedChip → ℕ → ℕ
place_of chip u = position_or_len (eqb u) (scans_of chip)

-- a chain from its scan-in port, which is at its first scan instance, to its scan-out port, which is at its
-- last one
abbrev pub chain_of : LinkedChip → List ℕ → StilChain
chain_of chip chain = record {
  scan_in = name_at chip true Si (slice_index chain 0);
  scan_out = name_at chip false So (slice_index chain (length chain - 1));
  places = map (place_of chip) chain;
}

-- what the text needs of the chip: all port bits in header order; the names of those that are chip inputs,
-- and of those that are observed; the control ports; the chains; and the number of scan instances
abbrev pub stil_chip : LinkedChip → List (List ℕ) → StilChip
stil_chip chip chains = record {
  signals = map signal_of chip.ports;
  inputs = names_of (data_ports chip true);
  outputs = names_of (data_ports chip false);
  controls = controls_of chip (scans_of chip);
  chains = map (chain_of chip) chains;
  scan_count = length (scans_of chip);
}

-- the chains are the chip's; each pair has a bit for each chip input in both vectors; and there is a value
-- for each observed output under each pair
pub record AreOfChip (chip : LinkedChip) (chains : List (List ℕ)) (pairs : List (List Bool))
    (expected : List (List Trit)) : Type 0 where
  pub chains_are : AreAllChains chip chains
  pub bits : All (λ pair. length pair ≡ length (inputs_of chip) + length (inputs_of chip)) pairs
  pub values : All (λ values. length values ≡ length (outputs_of chip)) expected
  pub counted : length pairs ≡ length expected
