-- What benches that work as one keep.
use Rattle.std.specs.Prelude.{◌≡◌, Bool, List, length, Option}
use Rattle.std.specs.List.{All}
use Rattle.ca_net.specs.declared.trit.Trit.{Trit}
use Rattle.ca_flat.specs.declared.chip_defect.ChipDefect.{ChipDefect}
use Rattle.ca_flat.specs.Chip.{Chip}
use Rattle.ca_flat.specs.Pair.{bit_count}
use Rattle.ca_credit.specs.Defects.{Task}
use Rattle.ca_benches.specs.declared.station.Station.{Station}
use Rattle.ca_benches.specs.Benches.{IsPart, IsStationed}
use Rattle.ca_benches.specs.code.Parts.{IsAimed}

-- Each bench is that of a part of the task, and each defect has its station at one of them. All have the
-- bits, and the pair at rest has one for each pattern bit of the chip. The bench of the station that is aimed
-- at aims at its defect.
pub record AreBenches (whole : Task) (tasks : List Task) (stations : List Station) (bits : List Trit)
    (rest : List Bool) (part_bits : List (List Trit)) (aim : Option Station)
    (aimeds : List (Option ChipDefect)) (chips : List Chip) : Type 0 where
  pub parts : All (IsPart whole) tasks
  pub stationed : All (IsStationed tasks) stations
  pub sized : length rest ≡ bit_count whole.chip
  pub parts_have : All (λ own. own ≡ bits) part_bits
  pub aimed : IsAimed tasks aimeds chips aim
