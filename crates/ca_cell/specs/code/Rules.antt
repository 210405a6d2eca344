-- Words of the code beside those of `specs/Rules.antt`. Private functions and proofs cite them.
use Rattle.std.specs.Prelude.{◌<◌}
use Rattle.ca_cell.specs.declared.raw.RawCell.{RawCell}
use Rattle.ca_cell.specs.declared.rule.CellRule.{CellRule}
use Rattle.ca_cell.specs.Rules.{Breaks, rank_of}

-- the rules on counts: all but the last
abbrev pub KeepsCounts : RawCell → Type 0
KeepsCounts raw = (rule : CellRule) → rank_of rule < 6 → Breaks raw rule → ⊥
