-- One vector of a cell, and what the cell ends with by it alone.
use Rattle.std.specs.Prelude.{ℕ, ◌<◌, List, replicate}
use Rattle.ca_net.specs.declared.trit.Trit.TheVariants.{X}
use Rattle.ca_net.specs.declared.wave.Wave.{Wave}
use Rattle.ca_cell.specs.declared.raw.RawCell.{RawCell}
use Rattle.ca_cell.specs.Raw.{is_input, is_output, role_count}
use Rattle.ca_cell.specs.Row.{vector_of}
use Rattle.ca_response.specs.Outputs.{pairs_of}
use Rattle.ca_flips.specs.Static.{LastEnd}

-- the vector of a number, over the cell's input pins, alone says what the cell ends with at each output pin
abbrev pub IsStaticAt : RawCell → ℕ → Type 0
IsStaticAt raw number =
    (output : ℕ) → output < role_count is_output raw.pins
    → LastEnd raw (vector_of (role_count is_input raw.pins) number) output

-- waves of this many input pins, of which the lasts alone are known: they are the vector of a number
abbrev pub waves_to : ℕ → ℕ → List Wave
waves_to inputs number = pairs_of (replicate inputs X) (vector_of inputs number)
