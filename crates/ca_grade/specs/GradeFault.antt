-- Why pairs aren't graded.
use Rattle.std.specs.Prelude.{Bool, List}
use Rattle.ca_net.specs.declared.trit.Trit.{Trit}
use Rattle.ca_flat.specs.Chip.{Chip}
use Rattle.ca_expected.specs.Wrong.{IsFirstWrong}
use Rattle.ca_grade.specs.declared.judged.GradeFault.{GradeFault}
use Rattle.ca_grade.specs.declared.judged.GradeFault.TheVariants as fault

abbrev pub IsCause : Chip → List (List Bool) → List (List Trit) → GradeFault → Type 0
IsCause chip pairs expected (fault.Expected wrong) = IsFirstWrong chip pairs expected wrong
IsCause chip pairs expected fault.NoMemory = Unit {0}
