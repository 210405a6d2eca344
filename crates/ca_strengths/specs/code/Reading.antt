-- What is read of a record.
use Rattle.std.specs.Prelude.{◌≡◌, Bool, true, false, List, Option, Some, None}
use Rattle.ca_cell.specs.declared.strength.Ratio.{Ratio}

-- the ratio joined those before it, or it can't
abbrev pub Joins : Bool → Option (List Ratio) → List Ratio → Type 0
Joins true wanted ratios = wanted ≡ Some ratios
Joins false wanted ratios = wanted ≡ None
