-- What the reading of a code asks of the partial pair in hand.
use Rattle.std.specs.Prelude.{ℕ, ◌≡◌, Bool, List, Option, Some, None}
use Rattle.ca_net.specs.declared.trit.Trit.{Trit}
use Rattle.ca_net.specs.declared.trit.Trit.TheVariants.{X}
use Rattle.ca_flat.specs.declared.chip_defect.ChipDefect.{ChipDefect}
use Rattle.ca_flat.specs.Chip.{Chip}
use Rattle.ca_flat.specs.Codes.{Rules, bit_trit, MayBranch}
use Rattle.ca_flat.specs.CheckedCode.{MayLeave}

-- a chip, with the places of its instances in the order of evaluation; the defect of it that is aimed at, if
-- one is; and a partial pair
pub record Examined : Type 0 where
  pub chip : Chip
  pub places : List ℕ
  pub aim : Option ChipDefect
  pub pair : List Trit

-- the same with another pair
abbrev pub with_pair : Examined → List Trit → Examined
with_pair examined pair = record examined { pair = pair }

-- nothing but the pair has changed
abbrev pub IsSameAim : Examined → Examined → Type 0
IsSameAim old new = new ≡ with_pair old new.pair

-- the value of a bit that may be unset
abbrev pub set_trit : Option Bool → Trit
set_trit None = X
set_trit (Some value) = bit_trit value

-- a leaf may stand for the defect that is aimed at, if there is one
abbrev pub MayLeaveFor : Chip → Option ChipDefect → List Trit → Type 0
MayLeaveFor chip None pair = ⊥
MayLeaveFor chip (Some defect) pair = MayLeave chip defect pair

-- a branch on the bit may
abbrev pub MayBranchFor : Chip → Option ChipDefect → List Trit → ℕ → Type 0
MayBranchFor chip None pair bit = ⊥
MayBranchFor chip (Some defect) pair bit = MayBranch chip defect pair bit

-- the rules of the claims on the defect that is aimed at; where none is, no token may stand
abbrev pub rules_for : Chip → Option ChipDefect → Rules
rules_for chip aim = record { leaf = MayLeaveFor chip aim; branch = MayBranchFor chip aim }

-- a leaf may stand at the pair in hand
abbrev pub MayLeaveHere : Examined → Type 0
MayLeaveHere examined = MayLeaveFor examined.chip examined.aim examined.pair

-- a branch on the bit may
abbrev pub MayBranchHere : Examined → ℕ → Type 0
MayBranchHere examined bit = MayBranchFor examined.chip examined.aim examined.pair bit

-- a branch on some bit may
pub record MayGoOn (examined : Examined) : Type 0 where
  pub bit : ℕ
  pub may : MayBranchHere examined bit
