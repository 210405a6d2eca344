-- The defects of a cell that is found in a text have names that differ.
use Rattle.std.proofs.Common.{◌≡◌, ℕ, List, Some}
use Rattle.ca_cell.specs.declared.raw.RawCell.{RawCell}
use Rattle.ca_cell.specs.declared.strength.StrengthTable.{StrengthTable}
use Rattle.ca_cell.specs.Rules.{KeepsRules}
use Rattle.ca_cell.specs.Laws.{DefectsDiffer}
use Rattle.ca_cell.proofs.DistinctLemmas.{defects_differ}
use Rattle.ca_spice.specs.Called.{cell_called}
use Rattle.ca_spice.proofs.PlainLemmas.{plain_names}

pub one_defect : (table : StrengthTable) (bytes word : List ℕ) (raw : RawCell) → cell_called table bytes word ≡ Some raw → KeepsRules raw
    → DefectsDiffer raw
one_defect table bytes word raw called keeps = defects_differ raw keeps (plain_names table bytes word raw called)
