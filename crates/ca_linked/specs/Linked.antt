-- Linked chips: nets, instances with the net of each pin, port bits, and an order of the library instances.
use Rattle.std.specs.Prelude.{ℕ, ◌^◌, ◌≡◌, ◌<◌, Bool, true, false, not, ◌&&◌, eqb, IsTrue, List, [], ◌∷◌}
use Rattle.std.specs.Prelude.{◌++◌, length, IsSomeAnd, Option, Some, slice_get, slice_index_or}
use Rattle.std.specs.Prelude.{option_to_list, if◌then◌else◌}
use Rattle.std.specs.List.{All, Contains, list_any, flat_map}
use Rattle.ca_cell.specs.declared.raw.RawCell.{RawCell}
use Rattle.ca_cell.specs.Raw.{is_input, is_output, role_count}
use Rattle.ca_cell.specs.Rules.{IsRaw, KeepsRules}
use Rattle.ca_linked.specs.Order.{IsOrder}
pub use Rattle.ca_linked.specs.declared.parts.ScanNets.{ScanNets}
pub use Rattle.ca_linked.specs.declared.parts.Body.{Body}
pub use Rattle.ca_linked.specs.declared.parts.Body.TheVariants.{Gate, Scan}
pub use Rattle.ca_linked.specs.declared.parts.Part.{Part}
pub use Rattle.ca_linked.specs.declared.parts.PortBit.{PortBit}
pub use Rattle.ca_linked.specs.declared.parts.Source.{Source}
pub use Rattle.ca_linked.specs.declared.parts.Source.TheVariants.{FromPort, FromConstant, FromPin}

-- The cells of the library, which instances name by their places; the number of nets; the nets that the
-- constants 0 and 1 drive; the instances in netlist order; the port bits in header order; and the library
-- instances in an order in which each comes after those that drive its inputs.
pub record LinkedChip : Type 0 where
  pub cells : List RawCell
  pub nets : ℕ
  pub zero : Option ℕ
  pub one : Option ℕ
  pub parts : List Part
  pub ports : List PortBit
  pub order : List ℕ

-- how many nets there are
abbrev pub net_count : LinkedChip → ℕ
net_count chip = chip.nets

-- the net that a constant drives, if it drives one
abbrev pub constant_net : LinkedChip → Bool → Option ℕ
constant_net chip false = chip.zero
constant_net chip true = chip.one

-- what is past the last cell
abbrev pub no_cell : RawCell
no_cell = record { pins = []; nets = []; devices = [] }

-- the cell at a place of the library
abbrev pub cell_of : List RawCell → ℕ → RawCell
cell_of cells place = slice_index_or cells place no_cell

-- the nets of the input pins of a library instance
abbrev pub gate_inputs : Body → List ℕ
gate_inputs (Gate cell inputs outputs) = inputs
gate_inputs (Scan nets) = []

-- the nets of the output pins of a library instance
abbrev pub gate_outputs : Body → List ℕ
gate_outputs (Gate cell inputs outputs) = outputs
gate_outputs (Scan nets) = []

-- the nets that a scan cell's pins put on the scan path
abbrev pub path_nets : Body → List ℕ
path_nets (Gate cell inputs outputs) = []
path_nets (Scan nets) = nets.se ∷ nets.ck ∷ nets.hold ∷ nets.si ∷ nets.so ∷ []

-- the nets of pins that no scan path may touch: those of library instances, and the data pins of scan cells
abbrev pub data_nets : Body → List ℕ
data_nets (Gate cell inputs outputs) = inputs ++ outputs
data_nets (Scan nets) = nets.d ∷ nets.q ∷ option_to_list nets.qn

-- the nets of the input pins, in pin order
abbrev pub input_nets : Body → List ℕ
input_nets (Gate cell inputs outputs) = inputs
input_nets (Scan nets) = nets.d ∷ nets.si ∷ nets.se ∷ nets.ck ∷ nets.hold ∷ []

-- the nets of the output pins, in pin order: those that an instance drives
abbrev pub output_nets : Body → List ℕ
output_nets (Gate cell inputs outputs) = outputs
output_nets (Scan nets) = nets.q ∷ (option_to_list nets.qn ++ nets.so ∷ [])

-- a list has the number
abbrev pub has : List ℕ → ℕ → Bool
has numbers n = list_any (eqb n) numbers

-- whether the net is on the scan path
abbrev pub is_scan_path : LinkedChip → ℕ → Bool
is_scan_path chip net = list_any (λ part. has (path_nets part.body) net) chip.parts

-- the net of a scan cell's inverted output, if it has one
abbrev pub inverted_nets : Body → List ℕ
inverted_nets (Gate cell inputs outputs) = []
inverted_nets (Scan nets) = option_to_list nets.qn

-- whether an input pin is on the net
abbrev pub is_read : LinkedChip → ℕ → Bool
is_read chip net = list_any (λ part. has (input_nets part.body) net) chip.parts

-- the source drives the net
abbrev pub Drives : LinkedChip → ℕ → Source → Type 0
Drives chip net (FromPort p) =
    IsSomeAnd (slice_get chip.ports p) (λ port. IsTrue port.is_input × (port.net ≡ net))
Drives chip net (FromConstant value) = constant_net chip value ≡ Some net
Drives chip net (FromPin u pin) =
    IsSomeAnd (slice_get chip.parts u) (λ part. slice_get (output_nets part.body) pin ≡ Some net)

-- the instance is of a library cell
abbrev pub IsGate : Body → Type 0
IsGate (Gate cell inputs outputs) = Unit {0}
IsGate (Scan nets) = ⊥

-- the instance u of the chip is one of a library cell
abbrev pub IsLibrary : LinkedChip → ℕ → Type 0
IsLibrary chip u = IsSomeAnd (slice_get chip.parts u) (λ part. IsGate part.body)

-- w drives a net on an input pin of u; both are of library cells
pub record Feeds (chip : LinkedChip) (w u : ℕ) : Type 0 where
  pub driver : Part
  pub reader : Part
  pub is_driver : slice_get chip.parts w ≡ Some driver
  pub is_reader : slice_get chip.parts u ≡ Some reader
  pub net : ℕ
  pub driven : Contains (gate_outputs driver.body) net
  pub read : Contains (gate_inputs reader.body) net

-- the cell keeps the rules, and there is a net for each pin
pub record IsGateOf (raw : RawCell) (inputs outputs : List ℕ) : Type 0 where
  pub is_raw : IsRaw raw
  pub keeps : KeepsRules raw
  pub net_per_input : length inputs ≡ role_count is_input raw.pins
  pub net_per_output : length outputs ≡ role_count is_output raw.pins

-- a library instance's cell keeps the rules, and it has a net for each pin
abbrev pub IsBody : List RawCell → Body → Type 0
IsBody cells (Gate cell inputs outputs) = IsGateOf (cell_of cells cell) inputs outputs
IsBody cells (Scan nets) = Unit {0}

-- the pins, ports and constants are on nets; each net has one driver, the data pins are off the scan path, no
-- input pin is on a net that an inverted output drives, and there is an order; and instances, port bits and
-- nets are few enough for numbers of 32 bits
pub record IsWired (chip : LinkedChip) : Type 0 where
  pub bodies : All (λ part. IsBody chip.cells part.body) chip.parts
  pub on_nets : All (λ part. All (λ net. net < net_count chip) (data_nets part.body)) chip.parts
  pub inputs_on_nets : All (λ part. All (λ net. net < net_count chip) (input_nets part.body)) chip.parts
  pub outputs_on_nets : All (λ part. All (λ net. net < net_count chip) (output_nets part.body)) chip.parts
  pub ports_on_nets : All (λ port. port.net < net_count chip) chip.ports
  pub constants_on_nets : (value : Bool) (net : ℕ) → constant_net chip value ≡ Some net → net < net_count chip
  pub few_parts : length chip.parts < 2 ^ 32
  pub few_ports : length chip.ports < 2 ^ 32
  pub few_nets : net_count chip < 2 ^ 32
  pub driven : (net : ℕ) → net < net_count chip → (s : Source) × Drives chip net s
  pub one_driver : (net : ℕ) (s t : Source) → Drives chip net s → Drives chip net t → s ≡ t
  pub off_path : All (λ part. All (λ net. is_scan_path chip net ≡ false) (data_nets part.body)) chip.parts
  pub unread : All (λ part. All (λ net. is_read chip net ≡ false) (inverted_nets part.body)) chip.parts
  pub ordered : IsOrder (Feeds chip) (IsLibrary chip) chip.order

-- the port bits of one direction that are off the scan path
abbrev pub port_nets : LinkedChip → Bool → List ℕ
port_nets chip input = flat_map
    (λ port. if (if port.is_input then input
    else not input) && not (is_scan_path chip port.net) then port.net ∷ [] else []) chip.ports

-- the net that a scan cell's output drives
abbrev pub q_nets : Body → List ℕ
q_nets (Gate cell inputs outputs) = []
q_nets (Scan nets) = nets.q ∷ []

-- the net that a scan cell takes its data from
abbrev pub d_nets : Body → List ℕ
d_nets (Gate cell inputs outputs) = []
d_nets (Scan nets) = nets.d ∷ []

-- the chip inputs: the bits of input ports, and then the outputs of scan cells
abbrev pub inputs_of : LinkedChip → List ℕ
inputs_of chip = port_nets chip true ++ flat_map (λ part. q_nets part.body) chip.parts

-- the observed outputs: the bits of output ports, and then the inputs of scan cells
abbrev pub outputs_of : LinkedChip → List ℕ
outputs_of chip = port_nets chip false ++ flat_map (λ part. d_nets part.body) chip.parts
