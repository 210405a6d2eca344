-- The nets of single port bits among the ends of a chip. Only the proofs of the code cite this.
use Rattle.std.specs.Prelude.{ℕ, Bool, not, ◌&&◌, List, [], ◌∷◌, if◌then◌else◌}
use Rattle.ca_linked.specs.Linked.{PortBit, LinkedChip, is_scan_path}

-- the port bit is of this direction, and off the scan path
abbrev pub is_end : LinkedChip → Bool → PortBit → Bool
is_end chip input port = (if port.is_input then input else not input) && not (is_scan_path chip port.net)

-- its net, if it is so
abbrev pub end_nets : LinkedChip → Bool → PortBit → List ℕ
end_nets chip input port = if is_end chip input port then port.net ∷ [] else []
