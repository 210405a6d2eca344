-- What an examiner sees and keeps.
use Rattle.std.specs.Prelude.{ℕ, ◌≡◌, List, [], None, Some}
use Rattle.ca_net.specs.Circuit.{IsWellFormed}
use Rattle.ca_flat.specs.declared.chip_defect.ChipDefect.{ChipDefect}
use Rattle.ca_flat.specs.Chip.{Chip, IsDefectIn}
use Rattle.ca_flat.specs.Flat.{flat}
use Rattle.ca_flat.specs.Codes.{unset_pair}
use Rattle.ca_sim.specs.Seen.{Seen}
use Rattle.ca_read_code.specs.Examined.{Examined}

-- the good flat network of the chip and those with a defect are networks
pub record AreNetworks (chip : Chip) : Type 0 where
  pub good_is : IsWellFormed (flat chip None)
  pub faulty_are : (defect : ChipDefect) → IsDefectIn chip defect → IsWellFormed (flat chip (Some defect))

-- what is seen of the chip, and the list of defects that was taken over
pub record Examining : Type 0 where
  pub seen : Seen
  pub listed : List ChipDefect

-- an examiner of the chip of which nothing was asked yet
pub record IsFreshExaminer (chip : Chip) (places : List ℕ) (examining : Examining) : Type 0 where
  pub chip_is : examining.seen.chip ≡ chip
  pub places_are : examining.seen.places ≡ places
  pub pair : examining.seen.pair ≡ unset_pair chip
  pub aim : examining.seen.aim ≡ None
  pub listed : examining.listed ≡ []

-- what an examiner is
abbrev pub examined_of : Seen → Examined
examined_of seen = record { chip = seen.chip; places = seen.places; aim = seen.aim; pair = seen.pair }
