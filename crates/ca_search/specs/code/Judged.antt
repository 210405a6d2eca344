-- Words of the code beside those of `specs/Judged.antt`. Private functions and proofs cite them.
use Rattle.std.specs.Prelude.{ℕ, List, Option, None, Some}
use Rattle.ca_net.specs.declared.trit.Trit.{Trit}
use Rattle.ca_flat.specs.declared.chip_defect.ChipDefect.{ChipDefect}
use Rattle.ca_flat.specs.Chip.{Chip}
use Rattle.ca_search.specs.FreeWay.{MaySet}
use Rattle.ca_code.specs.SearchRules.{MayLeaveFor, MayDecideFor}
use Rattle.ca_search.specs.Judged.{Judged, IsShownFor}

-- a leaf is allowed at the pair in hand
abbrev pub MayLeaveHere : Judged → Type 0
MayLeaveHere judged = MayLeaveFor judged.chip judged.aim judged.pair

-- a branch on the bit may
abbrev pub MayDecideHere : Judged → ℕ → Type 0
MayDecideHere judged bit = MayDecideFor judged.chip judged.aim judged.pair bit

-- the bit is an unset one of the support of the defect that is aimed at
abbrev pub MaySetFor : Chip → Option ChipDefect → List Trit → ℕ → Type 0
MaySetFor chip None pair bit = ⊥
MaySetFor chip (Some defect) pair bit = MaySet chip defect pair bit

-- the bit may be set
abbrev pub MaySetHere : Judged → ℕ → Type 0
MaySetHere judged bit = MaySetFor judged.chip judged.aim judged.pair bit

-- the pair in hand doesn't show the defect that is aimed at
abbrev pub IsUnshownHere : Judged → Type 0
IsUnshownHere judged = IsShownFor judged.chip judged.aim judged.pair → ⊥
