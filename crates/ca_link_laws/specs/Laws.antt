-- Linking and tracing have one answer.
use Rattle.std.specs.Prelude.{ℕ, ◌≡◌, ◌⊎◌, List}
use Rattle.ca_cell.specs.Library.{Named}
use Rattle.ca_verilog.specs.declared.raw.RawNetlist.{RawNetlist}
use Rattle.ca_linked.specs.Linked.{LinkedChip, inputs_of, outputs_of}
use Rattle.ca_wiring.specs.declared.scan_row.ScanRow.{ScanRow}
use Rattle.ca_wiring.specs.declared.fault.ChipFault.{ChipFault}
use Rattle.ca_wiring.specs.declared.fault.ChipFault.TheVariants as fault
use Rattle.ca_wiring.specs.Wiring.{Wiring}
use Rattle.ca_wiring.specs.Linking.{IsLinkOf}
use Rattle.ca_wiring.specs.Rules.{IsFirstBroken}
use Rattle.ca_scan.specs.declared.fault.ChainFault.{ChainFault}
use Rattle.ca_scan.specs.ChainFault.{AreAllChains, IsChainCause}
use Rattle.ca_link_laws.specs.Alike.{AreAlike, HaveOneCell}

-- links of one wiring are alike
abbrev pub LinksAreAlike : Type 0
LinksAreAlike =
    (wiring : Wiring) (chip also : LinkedChip) → IsLinkOf wiring chip → IsLinkOf wiring also
    → AreAlike chip also

-- and over the same cells their instances are of the same subcircuits
abbrev pub LinksHaveOneCell : Type 0
LinksHaveOneCell =
    (wiring : Wiring) (chip also : LinkedChip) → IsLinkOf wiring chip → IsLinkOf wiring also
    → chip.cells ≡ also.cells → HaveOneCell chip also

-- chips that are alike have the same chains, and the same causes to have none
pub record HaveOneTrace (chip also : LinkedChip) : Type 0 where
  pub chains : (chains : List (List ℕ)) → AreAllChains chip chains → AreAllChains also chains
  pub cause : (broken : ChainFault) → IsChainCause chip broken → IsChainCause also broken

-- so they have the same chip inputs and observed outputs
pub record HaveOnePorts (chip also : LinkedChip) : Type 0 where
  pub inputs : inputs_of chip ≡ inputs_of also
  pub outputs : outputs_of chip ≡ outputs_of also

abbrev pub AlikeHaveOnePorts : Type 0
AlikeHaveOnePorts = (chip also : LinkedChip) → AreAlike chip also → HaveOnePorts chip also

abbrev pub AlikeHaveOneTrace : Type 0
AlikeHaveOneTrace = (chip also : LinkedChip) → AreAlike chip also → HaveOneTrace chip also

-- both faults report a loop
abbrev pub AreLoops : ChipFault → ChipFault → Type 0
AreLoops (fault.Loop instances) (fault.Loop others) = Unit {0}
AreLoops _ _ = ⊥

-- the first rule that a netlist breaks is one, but that one of several loops may be reported
abbrev pub FirstBrokenIsOne : Type 0
FirstBrokenIsOne =
    (raw : RawNetlist) (library : List Named) (scan : List ScanRow) (broken other : ChipFault)
    → IsFirstBroken raw library scan broken → IsFirstBroken raw library scan other
    → (broken ≡ other) ⊎ AreLoops broken other
