-- What a judge is built on, and what it keeps.
use Rattle.std.specs.Prelude.{◌≤◌, None, Some}
use Rattle.ca_net.specs.Circuit.{IsWellFormed}
use Rattle.ca_flat.specs.declared.chip_defect.ChipDefect.{ChipDefect}
use Rattle.ca_flat.specs.Chip.{Chip, IsDefectIn}
use Rattle.ca_flat.specs.Flat.{flat}
use Rattle.ca_flat.specs.Pair.{bit_count}
use Rattle.ca_sim.specs.Seen.{Seen}
use Rattle.ca_code.specs.declared.token.TheConstants.{MOST_PATTERN_BITS}
use Rattle.ca_search.specs.Judged.{Judged}

-- Tokens of the chip's bits fit into two bytes, and the good flat network and those with a defect are
-- networks.
pub record CanBeJudged (core : Chip) : Type 0 where
  pub few : bit_count core ≤ MOST_PATTERN_BITS
  pub good_is : IsWellFormed (flat core None)
  pub faulty_are : (defect : ChipDefect) → IsDefectIn core defect → IsWellFormed (flat core (Some defect))

-- what a search is given
abbrev pub judged_of : Seen → Judged
judged_of seen = record { chip = seen.chip; places = seen.places; aim = seen.aim; pair = seen.pair }
