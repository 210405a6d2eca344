-- The chains of a linked chip cover its scan instances, and what is written of the chip is read back.
use Rattle.std.specs.Prelude.{ℕ, ◌≡◌, Bool, List, Ok}
use Rattle.ca_net.specs.declared.trit.Trit.{Trit}
use Rattle.ca_cell.specs.Library.{Named}
use Rattle.ca_verilog.specs.declared.raw.RawNetlist.{RawNetlist}
use Rattle.ca_wiring.specs.declared.scan_row.ScanRow.{ScanRow}
use Rattle.ca_stil.specs.Text.{stil_text}
use Rattle.ca_stil_form.specs.Reading.{whole}
use Rattle.ca_stil_form.specs.Tokens.{tokens_of}
use Rattle.ca_stil_form.specs.Whole.{Stil, stil_form}
use Rattle.ca_stil_laws.specs.Laws.{IsNamedLink}
use Rattle.ca_stil_pairs.specs.declared.file.StilFile.{StilFile}
use Rattle.ca_stil_pairs.specs.File.{IsFileOf}
use Rattle.ca_stil_pairs.specs.Laws.{IsReadBack}
use Rattle.ca_linked.specs.Linked.{LinkedChip}
use Rattle.ca_scan.specs.ChainFault.{AreAllChains}
use Rattle.ca_chip_stil.specs.ChipStil.{stil_chip, AreOfChip}
use Rattle.ca_stil_pairs.specs.Chip.{chip_part, part_of, IsCovered}

-- where the whole chains of a chip have all its scan instances, each of these is on one of them, once
abbrev pub ChainsCover : Type 0
ChainsCover = (chip : LinkedChip) (chains : List (List ℕ)) → AreAllChains chip chains
    → IsCovered (stil_chip chip chains)

-- the STIL text of such a chip, its chains, its pairs and their expected values is read back
abbrev pub WrittenChipIsReadBack : Type 0
WrittenChipIsReadBack =
    (netlist : RawNetlist) (library : List Named) (scan : List ScanRow) (chip : LinkedChip)
    (chains : List (List ℕ)) (pairs : List (List Bool)) (expected : List (List Trit))
    → IsNamedLink netlist library scan chip → AreOfChip chip chains pairs expected
    → IsReadBack (stil_chip chip chains) (stil_text (stil_chip chip chains) pairs expected) pairs expected

-- the text is a file of the chip with these chains, whose pairs and expected values are of the chip
pub record HasChipFile (chip : LinkedChip) (chains : List (List ℕ)) (bytes : List ℕ) : Type 0 where
  pub file : StilFile
  pub is : IsFileOf (stil_chip chip chains) bytes file
  pub fits : AreOfChip chip chains file.pairs file.expected

-- a text of the form whose signals, groups and chains are those of such a chip is a file of it
abbrev pub TextOfLinkedChipIsFile : Type 0
TextOfLinkedChipIsFile =
    (netlist : RawNetlist) (library : List Named) (scan : List ScanRow) (chip : LinkedChip)
    (chains : List (List ℕ)) (bytes : List ℕ) (value : Stil) → IsNamedLink netlist library scan chip
    → AreAllChains chip chains → whole stil_form (tokens_of bytes) ≡ Ok value
    → chip_part value ≡ part_of (stil_chip chip chains) → HasChipFile chip chains bytes
