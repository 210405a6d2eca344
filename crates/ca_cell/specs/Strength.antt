-- How strong a transistor is by the width and the length of its channel.
use Rattle.std.specs.Prelude.{ℕ, ◌+◌, ◌*◌, nat_le, Bool, true, false}
use Rattle.ca_net.specs.declared.scale.TheConstants.{WEAKEST}
use Rattle.ca_cell.specs.declared.strength.Ratio.{Ratio}
use Rattle.ca_cell.specs.declared.strength.StrengthTable.{StrengthTable}

-- the ratio of a channel's width to its length is at least this one
abbrev pub reaches : Ratio → ℕ → ℕ → Bool
reaches ratio width length = nat_le (length * ratio.width) (width * ratio.length)

abbrev pub one_if : Bool → ℕ
one_if true = 1
one_if false = 0

-- the strength of a transistor of this width and length: one class more than the weakest for each ratio of
-- the table that it reaches
abbrev pub strength_of : StrengthTable → ℕ → ℕ → ℕ
strength_of table width length = WEAKEST
    + ((one_if (reaches table.first width length) + one_if (reaches table.second width length)
    + one_if (reaches table.third width length))
    + (one_if (reaches table.fourth width length) + one_if (reaches table.fifth width length)))

-- the table that holds where none is named
abbrev pub default_table : StrengthTable
default_table = record {
  first = record { width = 1; length = 2 };
  second = record { width = 1; length = 1 };
  third = record { width = 2; length = 1 };
  fourth = record { width = 4; length = 1 };
  fifth = record { width = 8; length = 1 };
}
