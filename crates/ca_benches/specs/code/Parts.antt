-- What a bench of a list has and does, by lists with an entry for each bench.
use Rattle.std.specs.Prelude.{ℕ, ◌≡◌, List, [], slice_index_or, Option, None, Some}
use Rattle.ca_net.specs.declared.trit.Trit.{Trit}
use Rattle.ca_flat.specs.declared.chip_defect.ChipDefect.{ChipDefect}
use Rattle.ca_flat.specs.Chip.{Chip}
use Rattle.ca_credit.specs.Defects.{Task, StandsIn}
use Rattle.ca_benches.specs.declared.station.Station.{Station}
use Rattle.ca_benches.specs.Benches.{no_chip, task_at, chip_of_station, IsStationed}

-- the bits of a bench
abbrev pub bits_at : List (List Trit) → ℕ → List Trit
bits_at part_bits part = slice_index_or part_bits part []

-- the defect at which it is aimed
abbrev pub aimed_at : List (Option ChipDefect) → ℕ → Option ChipDefect
aimed_at aimeds part = slice_index_or aimeds part None

-- the chip of that defect
abbrev pub aimed_in_at : List Chip → ℕ → Chip
aimed_in_at chips part = slice_index_or chips part no_chip

-- the bench of a station is aimed at its defect
pub record IsAimedAt (tasks : List Task) (aimeds : List (Option ChipDefect)) (chips : List Chip)
    (station : Station) : Type 0 where
  pub aimed : aimed_at aimeds station.part ≡ Some station.defect
  pub aimed_in : aimed_in_at chips station.part ≡ chip_of_station tasks station
  pub stands_in : StandsIn (task_at tasks station.part).chip (chip_of_station tasks station)

-- so is that of the station that is aimed at, if there is one
abbrev pub IsAimed : List Task → List (Option ChipDefect) → List Chip → Option Station → Type 0
IsAimed tasks aimeds chips None = Unit {0}
IsAimed tasks aimeds chips (Some station) = IsStationed tasks station × IsAimedAt tasks aimeds chips station

-- the defect that is aimed at
abbrev pub aimed_of : Option Station → Option ChipDefect
aimed_of None = None
aimed_of (Some station) = Some station.defect

-- its chip; where there is no such defect, the chip itself
abbrev pub aimed_chip : Chip → List Task → Option Station → Chip
aimed_chip chip tasks None = chip
aimed_chip chip tasks (Some station) = chip_of_station tasks station
