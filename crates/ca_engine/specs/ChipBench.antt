-- What contracts see of the bench of a chip, and what it keeps.
use Rattle.std.specs.Prelude.{ℕ, ◌≡◌, List, Option, None}
use Rattle.ca_net.specs.declared.trit.Trit.{Trit}
use Rattle.ca_flat.specs.declared.chip_defect.ChipDefect.{ChipDefect}
use Rattle.ca_flat.specs.declared.token.Token.{Token}
use Rattle.ca_flat.specs.Chip.{Chip}
use Rattle.ca_flat.specs.Codes.{unset_pair}
use Rattle.ca_credit.specs.Defects.{Task}

-- the chip, its defects and how many branches a search may have, the bits that are set, the defect that is
-- aimed at, the code of the last search, how often was aimed, and how often an instance was evaluated
pub record Benched : Type 0 where
  pub chip : Chip
  pub defects : List ChipDefect
  pub budget : ℕ
  pub bits : List Trit
  pub aimed : Option ChipDefect
  pub code : List Token
  pub aims : ℕ
  pub evaluated : ℕ

-- what is to be done by it
abbrev pub task_in : Benched → Task
task_in bench = record {
  chip = bench.chip;
  chip_of = λ place. bench.chip;
  defects = bench.defects;
  budget = bench.budget;
}

-- nothing was asked of the bench yet: no bit is set, no defect is aimed at, and nothing is counted
pub record IsUnused (bench : Benched) : Type 0 where
  pub bits : bench.bits ≡ unset_pair bench.chip
  pub aimed : bench.aimed ≡ None
  pub aims : bench.aims ≡ 0
  pub evaluated : bench.evaluated ≡ 0
