-- What contracts see of benches that work as one, and what is to be done by them.
use Rattle.std.specs.Prelude.{ℕ, ◌≡◌, ◌<◌, Bool, List, [], length, map, slice_index_or, Option, None}
use Rattle.ca_net.specs.declared.trit.Trit.{Trit}
use Rattle.ca_flat.specs.declared.chip_defect.ChipDefect.{ChipDefect}
use Rattle.ca_flat.specs.Chip.{Chip}
use Rattle.ca_code.specs.Filled.{trits_of}
use Rattle.ca_credit.specs.Defects.{Task, StandsIn, IsDefectAt}
use Rattle.ca_benches.specs.declared.station.Station.{Station}

-- what is past the last bench: nothing is to be done
abbrev pub no_chip : Chip
no_chip = record { nets = []; instances = []; inputs = []; constants = []; outputs = [] }

abbrev pub no_task : Task
no_task = record { chip = no_chip; chip_of = λ place. no_chip; defects = []; budget = 0 }

-- the task of a bench
abbrev pub task_at : List Task → ℕ → Task
task_at tasks part = slice_index_or tasks part no_task

-- the chip of the defect in a station, by the task of its bench
abbrev pub chip_of_station : List Task → Station → Chip
chip_of_station tasks station = (task_at tasks station.part).chip_of station.place

-- the defect in a station
abbrev pub defect_of : Station → ChipDefect
defect_of station = station.defect

-- the station is at one of the benches, and its defect is at its place of that bench's list
pub record IsStationed (tasks : List Task) (station : Station) : Type 0 where
  pub within : station.part < length tasks
  pub listed : IsDefectAt (task_at tasks station.part) station.place station.defect

-- the task of a bench is a part of the whole one: its chip stands in for the other chip, and each search may
-- have as many branches
pub record IsPart (whole part : Task) : Type 0 where
  pub stands_in : StandsIn whole.chip part.chip
  pub budget : part.budget ≡ whole.budget

-- The task of the chip of the first of these, with the defects of these stations: each is a defect of the
-- chip that its bench has for it.
abbrev pub task_of : Task → List Task → List Station → Task
task_of whole tasks stations = record {
  chip = whole.chip;
  chip_of = λ place. slice_index_or (map (chip_of_station tasks) stations) place whole.chip;
  defects = map defect_of stations;
  budget = whole.budget;
}

-- the chip, the chip of each defect, the defects and how many branches a search may have, the bits that are
-- set, the defect that is aimed at and its chip, and how often was aimed
pub record Joined : Type 0 where
  pub chip : Chip
  pub chips : List Chip
  pub defects : List ChipDefect
  pub budget : ℕ
  pub bits : List Trit
  pub aimed : Option ChipDefect
  pub aimed_in : Chip
  pub aims : ℕ

-- what is to be done by them
abbrev pub task_in : Joined → Task
task_in benches = record {
  chip = benches.chip;
  chip_of = λ place. slice_index_or benches.chips place benches.chip;
  defects = benches.defects;
  budget = benches.budget;
}

-- nothing was asked of the benches yet: they have the bits of the pair at rest, no defect is aimed at, and
-- nothing is counted
pub record IsUnused (rest : List Bool) (benches : Joined) : Type 0 where
  pub bits : benches.bits ≡ trits_of rest
  pub aimed : benches.aimed ≡ None
  pub aims : benches.aims ≡ 0
