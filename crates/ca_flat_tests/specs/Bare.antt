-- Cells without devices, as scan cells appear in a chip: with one output pin, or with none.
use Rattle.std.specs.Prelude.{[], ◌∷◌}
use Rattle.ca_cell.specs.declared.raw.Role.TheVariants.{Output, Power, Ground}
use Rattle.ca_cell.specs.declared.raw.RawCell.{RawCell}
use Rattle.ca_flat.specs.Chip.{IsCell}

-- power v and ground g alone
abbrev pub bare_cell : RawCell
bare_cell = record {
  pins = record { name = 118 ∷ []; role = Power } ∷ record { name = 103 ∷ []; role = Ground } ∷ [];
  nets = (118 ∷ []) ∷ (103 ∷ []) ∷ [];
  devices = [];
}

-- power v, ground g, and the output q, which nothing drives
abbrev pub undriven_cell : RawCell
undriven_cell = record {
  pins = record { name = 118 ∷ []; role = Power } ∷ record { name = 103 ∷ []; role = Ground }
      ∷ record { name = 113 ∷ []; role = Output } ∷ [];
  nets = (118 ∷ []) ∷ (103 ∷ []) ∷ (113 ∷ []) ∷ [];
  devices = [];
}

-- both may be in a chip
abbrev pub BareCellsAreCells : Type 0
BareCellsAreCells = IsCell bare_cell × IsCell undriven_cell
