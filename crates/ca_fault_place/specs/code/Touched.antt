-- The wires that nets stand on, as the code finds them without the library: those of connections and port
-- bits, and the constants that are named. Only the proofs of the code cite this.
use Rattle.std.specs.Prelude.{ℕ, zero, suc, ◌+◌, ◌≡◌, ◌<◌, ◌≤◌, Bool, false, true, List, [], ◌∷◌, ◌++◌, map}
use Rattle.std.specs.Prelude.{Option}
use Rattle.std.specs.Prelude.{Some, None, eqb, ◌&&◌, slice_get, slice_index, slice_index_or, if◌then◌else◌}
use Rattle.std.specs.List.{flat_map, list_any}
use Rattle.ca_verilog.specs.declared.raw.RawBit.{RawBit}
use Rattle.ca_verilog.specs.declared.raw.RawInstance.{RawInstance}
use Rattle.ca_verilog.specs.declared.raw.RawSpan.{RawSpan}
use Rattle.ca_verilog.specs.declared.raw.RawNetlist.{RawNetlist}
use Rattle.ca_verilog.specs.IsNetlist.{bit_count}
use Rattle.ca_verilog.specs.Joins.{pairs_of}
use Rattle.ca_cell.specs.Library.{Named}
use Rattle.ca_wiring.specs.declared.scan_row.ScanRow.{ScanRow}
use Rattle.ca_wiring.specs.InstanceRules.{AreSound}
use Rattle.ca_wiring.specs.Nets.{AreNets}
use Rattle.ca_wiring.specs.Wiring.{wire_of, header_bits, wiring_of}
use Rattle.ca_wiring.specs.Numbers.{WireMarks}
use Rattle.ca_draft.specs.OnWires.{has_constant, constant_wires}
use Rattle.ca_fault_place.specs.Names.{wire_text}

-- the wire of what is on a pin, if anything is
abbrev pub use_wires : ℕ → Option RawBit → List ℕ
use_wires bits None = []
use_wires bits (Some bit) = wire_of bits bit ∷ []

-- the wires of an instance's connections
abbrev pub instance_wires : ℕ → RawInstance → List ℕ
instance_wires bits instance = flat_map (λ used. use_wires bits used.bit) instance.pins

-- this many wires from this one on
abbrev pub wires_from : ℕ → ℕ → List ℕ
wires_from first zero = []
wires_from first (suc count) = first ∷ wires_from (first + 1) count

-- the wires that nets stand on, where some span has the constant 0, and the constant 1
abbrev pub touched_with : RawNetlist → ℕ → Bool → Bool → List ℕ
touched_with raw bits zero_named one_named =
    flat_map (instance_wires bits) raw.instances
    ++ (map (λ bit. bit.wire) (header_bits raw.buses raw.ports)
    ++ (constant_wires bits zero_named ++ constant_wires (bits + 1) one_named))

-- the same, with the spans of the netlist
abbrev pub touched_of : RawNetlist → ℕ → List RawSpan → List ℕ
touched_of raw bits spans =
    touched_with raw bits (list_any (has_constant false) spans) (list_any (has_constant true) spans)

-- a net is known by the wire
abbrev pub is_known : WireMarks → ℕ → Bool
is_known marks w = eqb (slice_index marks.earliest w) w && slice_index_or marks.used w false

-- how many nets are known by the first wires
abbrev pub known_count : WireMarks → ℕ → ℕ
known_count marks zero = 0
known_count marks (suc w) = if is_known marks w then known_count marks w + 1 else known_count marks w

-- the net of this number is known by the wire
pub record IsNth (marks : WireMarks) (net w : ℕ) : Type 0 where
  pub known : is_known marks w ≡ true
  pub following : known_count marks w ≡ net

-- the list has the wires that nets stand on, with some spans of the netlist's joins
pub record IsTouched (raw : RawNetlist) (bits : ℕ) (wires : List ℕ) : Type 0 where
  pub spans : List RawSpan
  pub are_spans : flat_map pairs_of spans ≡ raw.joins
  pub is : wires ≡ touched_of raw bits spans

-- in every net order of the netlist's wiring, the net of this number is known by the wire
abbrev pub IsKnownBy : RawNetlist → ℕ → ℕ → Type 0
IsKnownBy raw net wire =
    (library : List Named) (scan : List ScanRow) → AreSound raw library scan → (nets : List ℕ)
    → AreNets (wiring_of raw library scan) nets → slice_get nets net ≡ Some wire

-- in every net order, the net of this number is that of an open output pin, which has no name
abbrev pub IsUnnamed : RawNetlist → ℕ → Type 0
IsUnnamed raw net =
    (library : List Named) (scan : List ScanRow) → AreSound raw library scan → (nets : List ℕ) (wire : ℕ)
    → AreNets (wiring_of raw library scan) nets → slice_get nets net ≡ Some wire
    → bit_count raw.buses + 2 ≤ wire

-- what is found for the number of a net: the wire by which it is known, if this has a name
abbrev pub IsFoundFor : RawNetlist → ℕ → Option ℕ → Type 0
IsFoundFor raw net None = IsUnnamed raw net
IsFoundFor raw net (Some wire) = (wire < bit_count raw.buses + 2) × IsKnownBy raw net wire

-- what is found among the marks for the number of a net
abbrev pub IsFoundAmong : WireMarks → ℕ → ℕ → Option ℕ → Type 0
IsFoundAmong marks most net None = known_count marks most ≤ net
IsFoundAmong marks most net (Some w) = (w < most) × IsNth marks net w

-- whatever the library and the table of scan cells, the net makes the text
abbrev pub IsTextOfNet : RawNetlist → ℕ → (List ℕ → List ℕ) → List ℕ → Type 0
IsTextOfNet raw net text_of text =
    (library : List Named) (scan : List ScanRow) → AreSound raw library scan → (nets : List ℕ) (wire : ℕ)
    → AreNets (wiring_of raw library scan) nets → slice_get nets net ≡ Some wire
    → text ≡ wire_text raw.buses wire text_of
