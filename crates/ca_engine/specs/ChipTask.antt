-- What is to be done with the defects of a linked chip.
use Rattle.std.specs.Prelude.{ℕ}
use Rattle.ca_engine.specs.ChipDefects.{chip_defects}
use Rattle.ca_credit.specs.Defects.{Task}
use Rattle.ca_linked.specs.Linked.{LinkedChip}
use Rattle.ca_linked.specs.Instances.{gates_of}
use Rattle.ca_view.specs.Core.{core_of}

-- to search, with at most `budget` branches for each, for pairs that show the defects of the chip's library
-- instances: by instance in netlist order, and then in the order of its cell's list
abbrev pub task_of : LinkedChip → ℕ → Task
task_of chip budget = record {
  chip = core_of chip;
  chip_of = λ place. core_of chip;
  defects = chip_defects (core_of chip) (gates_of chip);
  budget = budget;
}
