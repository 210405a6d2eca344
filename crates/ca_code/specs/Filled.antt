-- Partial pairs whose unset bits are filled with 0.
use Rattle.std.specs.Prelude.{◌≡◌, Bool, true, false, List, length, map}
use Rattle.ca_net.specs.declared.trit.Trit.{Trit}
use Rattle.ca_net.specs.declared.trit.Trit.TheVariants.{Zero, One, X}
use Rattle.ca_flat.specs.declared.chip_defect.ChipDefect.{ChipDefect}
use Rattle.ca_flat.specs.Chip.{Chip}
use Rattle.ca_flat.specs.Pair.{bit_count, IsShown}
pub use Rattle.ca_flat.specs.Detection.{trits_of}

-- a bit, 0 where it is unset
abbrev pub filled_bit : Trit → Bool
filled_bit One = true
filled_bit Zero = false
filled_bit X = false

-- the pair that a partial pair gives when its unset bits are filled with 0
abbrev pub filled : List Trit → List Bool
filled partial = map filled_bit partial

-- where a partial pair shows the defect, so does the pair that it gives
abbrev pub FilledIsShown : Type 0
FilledIsShown =
    (chip : Chip) (defect : ChipDefect) (partial : List Trit) → length partial ≡ bit_count chip
    → IsShown chip defect partial → IsShown chip defect (trits_of (filled partial))
