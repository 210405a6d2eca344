-- What a search learns about the partial pair in hand.
use Rattle.std.specs.Prelude.{ℕ, ◌≡◌, List, Option, Some, None}
use Rattle.ca_net.specs.declared.trit.Trit.{Trit}
use Rattle.ca_flat.specs.declared.chip_defect.ChipDefect.{ChipDefect}
use Rattle.ca_flat.specs.Chip.{Chip}
use Rattle.ca_flat.specs.Waves.{IsFlatChip}
use Rattle.ca_flat.specs.Pair.{IsShown, IsSettledPair, IsOpenPair}
use Rattle.ca_guide.specs.declared.guide.Step.{Step}
use Rattle.ca_guide.specs.declared.guide.Step.TheVariants.{Branch, RuledOut}
use Rattle.ca_search.specs.declared.judge.Standing.{Standing}
use Rattle.ca_search.specs.declared.judge.Standing.TheVariants.{Shown, Settled, Open}
use Rattle.ca_code.specs.SearchRules.{IsPlainPair, MayDecideFor}
use Rattle.ca_search.specs.FreeWay.{IsFreeWay}
use Rattle.ca_flat.specs.declared.token.Token.{Token}
use Rattle.ca_flat.specs.Codes.{unset_pair}

-- a chip, with the places of its instances in the order of evaluation; the defect of it that is aimed at, if
-- one is; and a partial pair
pub record Judged : Type 0 where
  pub chip : Chip
  pub places : List ℕ
  pub aim : Option ChipDefect
  pub pair : List Trit

-- the same with another pair
abbrev pub with_pair : Judged → List Trit → Judged
with_pair judged pair = record judged { pair = pair }

-- nothing but the pair has changed: it is one chip and one defect all along
abbrev pub IsSameAim : Judged → Judged → Type 0
IsSameAim old new = new ≡ with_pair old new.pair

-- the pair shows the defect that is aimed at
abbrev pub IsShownFor : Chip → Option ChipDefect → List Trit → Type 0
IsShownFor chip None pair = ⊥
IsShownFor chip (Some defect) pair = IsShown chip defect pair

-- it is settled for it
abbrev pub IsSettledFor : Chip → Option ChipDefect → List Trit → Type 0
IsSettledFor chip None pair = ⊥
IsSettledFor chip (Some defect) pair = IsSettledPair chip defect pair

-- it is open for it
abbrev pub IsOpenFor : Chip → Option ChipDefect → List Trit → Type 0
IsOpenFor chip None pair = ⊥
IsOpenFor chip (Some defect) pair = IsOpenPair chip defect pair

-- it is plainly ruled out for it
abbrev pub IsPlainFor : Chip → Option ChipDefect → List Trit → Type 0
IsPlainFor chip None pair = ⊥
IsPlainFor chip (Some defect) pair = IsPlainPair chip defect pair

-- this is how the pair in hand stands
abbrev pub IsStanding : Judged → Standing → Type 0
IsStanding judged Shown = IsShownFor judged.chip judged.aim judged.pair
IsStanding judged Settled = IsSettledFor judged.chip judged.aim judged.pair
IsStanding judged Open = IsOpenFor judged.chip judged.aim judged.pair

-- ruled out exactly where the pair in hand is plainly so, and else a branch on an unset bit of the support
abbrev pub IsStep : Judged → Step → Type 0
IsStep judged (Branch bit first) = MayDecideFor judged.chip judged.aim judged.pair bit
IsStep judged RuledOut = IsPlainFor judged.chip judged.aim judged.pair

-- the flat networks of the chip are networks, without the defect that is aimed at, if one is, and with it
abbrev pub IsFlatFor : Chip → Option ChipDefect → Type 0
IsFlatFor chip None = Unit {0}
IsFlatFor chip (Some defect) = (rank : ℕ → ℕ) × IsFlatChip chip rank defect

-- the pair in hand shows the defect that is aimed at
abbrev pub IsShownHere : Judged → Type 0
IsShownHere judged = IsShownFor judged.chip judged.aim judged.pair

-- the code is a way to the pair for the defect that is aimed at
abbrev pub IsFreeWayFor : Chip → Option ChipDefect → List Token → List Trit → Type 0
IsFreeWayFor chip None code pair = ⊥
IsFreeWayFor chip (Some defect) code pair = IsFreeWay chip defect code (unset_pair chip) pair

-- the code is a way to the pair in hand
abbrev pub IsWayHere : Judged → List Token → Type 0
IsWayHere judged code = IsFreeWayFor judged.chip judged.aim code judged.pair

-- the way leads to the pair in hand, which shows the defect
pub record IsFoundWay (judged : Judged) (code : List Token) : Type 0 where
  pub way : IsWayHere judged code
  pub shown : IsShownHere judged
