-- What an attempt begins with, and what it keeps.
use Rattle.std.specs.Prelude.{ℕ, ◌≡◌, ◌<◌, ◌≤◌, List, length, Some, None}
use Rattle.ca_net.specs.Circuit.{IsWellFormed}
use Rattle.ca_code.specs.declared.token.TheConstants.{MOST_PATTERN_BITS}
use Rattle.ca_flat.specs.declared.chip_defect.ChipDefect.{ChipDefect}
use Rattle.ca_flat.specs.Chip.{Chip, count_of}
use Rattle.ca_flat.specs.Flat.{flat}
use Rattle.ca_flat.specs.Pair.{bit_count}
use Rattle.ca_view.specs.NetLists.{NetLists, AreNetsOf}
use Rattle.ca_view.specs.Linked.{IsAim, place_in}
use Rattle.ca_guide.specs.Guide.{Guided, HasRoomFor, IsSupport}
use Rattle.ca_code.specs.Tokens.{tokens_of}
use Rattle.ca_search.specs.Judged.{IsWayHere}
use Rattle.ca_sim.specs.Seen.{Seen}
use Rattle.ca_judge.specs.ChipJudge.{judged_of}

-- the lists are those of the chip, the guide has the support of the defect, and the flat networks are
-- networks
pub record IsAimed (core : Chip) (lists : NetLists) (guided : Guided) (defect : ChipDefect) : Type 0 where
  pub nets : AreNetsOf core lists
  pub room : HasRoomFor lists guided
  pub support : IsSupport core defect guided.support
  pub instance : defect.instance < count_of core
  pub few : bit_count core ≤ MOST_PATTERN_BITS
  pub good_is : IsWellFormed (flat core None)
  pub faulty_is : IsWellFormed (flat core (Some defect))

-- the defect of the chip is aimed at
pub record IsAimedAt (core : Chip) (defect : ChipDefect) (seen : Seen) : Type 0 where
  pub chip_is : seen.chip ≡ core
  pub aim_is : seen.aim ≡ Some defect

-- the tokens of the numbers are a way to the pair in hand, with no more bits than this
pub record IsOnWay (core : Chip) (defect : ChipDefect) (most : ℕ) (seen : Seen) (numbers : List ℕ) : Type 0
  where
    pub chip_is : seen.chip ≡ core
    pub aim_is : seen.aim ≡ Some defect
    pub way : IsWayHere (judged_of seen) (tokens_of numbers)
    pub within : length numbers ≤ most

-- the waves of attempts are of the chip of the simulator, whose aim is placed
pub record IsTried (seen tried : Seen) : Type 0 where
  pub chip_is : tried.chip ≡ seen.chip
  pub places_are : tried.places ≡ seen.places
  pub aim_is : IsAim seen.chip (place_in seen.places) seen.aim

-- they are of this chip, with these places
pub record IsTriedOn (core : Chip) (places : List ℕ) (tried : Seen) : Type 0 where
  pub chip_is : tried.chip ≡ core
  pub places_are : tried.places ≡ places
