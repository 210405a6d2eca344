-- The laws of the STIL texts of linked chips: the form allows their values, and each text reads as them.
use Rattle.std.specs.Prelude.{ℕ, ◌≡◌, ◌^◌, ◌<◌, Bool, true, List, length, Ok}
use Rattle.std.specs.List.{All}
use Rattle.ca_net.specs.declared.trit.Trit.{Trit}
use Rattle.ca_cell.specs.Library.{Named}
use Rattle.ca_verilog.specs.declared.raw.RawNetlist.{RawNetlist}
use Rattle.ca_linked.specs.Linked.{LinkedChip}
use Rattle.ca_wiring.specs.declared.scan_row.ScanRow.{ScanRow}
use Rattle.ca_wiring.specs.Wiring.{wiring_of}
use Rattle.ca_wiring.specs.Linking.{IsLinkOf}
use Rattle.ca_wiring.specs.Rules.{KeepsRules}
use Rattle.ca_stil.specs.Text.{stil_text}
use Rattle.ca_stil_form.specs.Frame.{is_name}
use Rattle.ca_stil_form.specs.Tokens.{tokens_of}
use Rattle.ca_stil_form.specs.Reading.{whole}
use Rattle.ca_stil_form.specs.Whole.{stil_form}
use Rattle.ca_stil_form.specs.Value.{stil_value}
use Rattle.ca_chip_stil.specs.ChipStil.{stil_chip, AreOfChip}

-- the chip is the link of a netlist, a library and a scan table that break no rule of linking; it has fewer
-- than 2^32 instances, as each linked chip has; and each port bit has a name of the form: one or more bytes
-- from 33 to 126, none of them `"`
pub record IsNamedLink (netlist : RawNetlist) (library : List Named) (scan : List ScanRow)
    (chip : LinkedChip) : Type 0 where
  pub kept : KeepsRules netlist library scan
  pub link : IsLinkOf (wiring_of netlist library scan) chip
  pub few_parts : length chip.parts < 2 ^ 32
  pub named : All (λ port. is_name port.name ≡ true) chip.ports

-- the form allows the values of such a chip, of its chains, its pairs and their expected values
abbrev pub ChipValuesAreAllowed : Type 0
ChipValuesAreAllowed = (netlist : RawNetlist) (library : List Named) (scan : List ScanRow) (chip : LinkedChip)
    (chains : List (List ℕ)) (pairs : List (List Bool)) (expected : List (List Trit))
    → IsNamedLink netlist library scan chip → AreOfChip chip chains pairs expected
    → stil_form.allowed (stil_value (stil_chip chip chains) pairs expected) ≡ true

-- so the STIL text of such a chip reads as these values
abbrev pub ChipTextIsRead : Type 0
ChipTextIsRead = (netlist : RawNetlist) (library : List Named) (scan : List ScanRow) (chip : LinkedChip)
    (chains : List (List ℕ)) (pairs : List (List Bool)) (expected : List (List Trit))
    → IsNamedLink netlist library scan chip → AreOfChip chip chains pairs expected
    → whole stil_form (tokens_of (stil_text (stil_chip chip chains) pairs expected))
    ≡ Ok (stil_value (stil_chip chip chains) pairs expected)
