-- The names of the ports of a linked chip.
use Rattle.std.specs.Prelude.{ℕ, ◌≡◌, true, List, Ok}
use Rattle.std.specs.List.{All}
use Rattle.ca_cell.specs.Library.{Named}
use Rattle.ca_verilog.specs.declared.raw.RawNetlist.{RawNetlist}
use Rattle.ca_verilog.specs.Text.{netlist_of}
use Rattle.ca_linked.specs.Linked.{LinkedChip}
use Rattle.ca_wiring.specs.declared.scan_row.ScanRow.{ScanRow}
use Rattle.ca_wiring.specs.Wiring.{wiring_of}
use Rattle.ca_wiring.specs.Linking.{IsLinkOf}
use Rattle.ca_stil_form.specs.Frame.{is_name}

-- where a text reads as the netlist, each port bit of the chip that it links to has a name of the form
abbrev pub PortsAreNamed : Type 0
PortsAreNamed =
    (text : List ℕ) (netlist : RawNetlist) (library : List Named) (scan : List ScanRow) (chip : LinkedChip)
    → netlist_of text ≡ Ok netlist → IsLinkOf (wiring_of netlist library scan) chip
    → All (λ port. is_name port.name ≡ true) chip.ports
