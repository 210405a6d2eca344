-- The rules of the codes that a search writes. They are those of checked codes, but that they ask for no
-- states which are the limits of a pair: that there are limits is known by a double negation alone, so no
-- search can hand them out. What is said of the pair's waves is said of every such states.
use Rattle.std.specs.Prelude.{ℕ, List, Option, None, Some}
use Rattle.ca_net.specs.declared.trit.Trit.{Trit}
use Rattle.ca_flat.specs.declared.chip_defect.ChipDefect.{ChipDefect}
use Rattle.ca_flat.specs.Chip.{Chip}
use Rattle.ca_flat.specs.Codes.{Rules, MayBranch}
pub use Rattle.ca_flat.specs.CheckedCode.{IsPlainPair, MayLeave}

-- a branch is allowed at an open pair that isn't plainly ruled out, on an unset bit of the support
pub record MayDecide (chip : Chip) (defect : ChipDefect) (pair : List Trit) (bit : ℕ) : Type 0 where
  pub may : MayBranch chip defect pair bit
  pub not_plain : IsPlainPair chip defect pair → ⊥

-- the rules of a search
abbrev pub search_rules : Chip → ChipDefect → Rules
search_rules chip defect = record { leaf = MayLeave chip defect; branch = MayDecide chip defect }

-- a leaf is allowed for the defect that is aimed at, if there is one
abbrev pub MayLeaveFor : Chip → Option ChipDefect → List Trit → Type 0
MayLeaveFor chip None pair = ⊥
MayLeaveFor chip (Some defect) pair = MayLeave chip defect pair

-- a branch may
abbrev pub MayDecideFor : Chip → Option ChipDefect → List Trit → ℕ → Type 0
MayDecideFor chip None pair bit = ⊥
MayDecideFor chip (Some defect) pair bit = MayDecide chip defect pair bit

-- the rules for the defect that is aimed at; where none is, no token is allowed
abbrev pub rules_for : Chip → Option ChipDefect → Rules
rules_for chip aim = record { leaf = MayLeaveFor chip aim; branch = MayDecideFor chip aim }
