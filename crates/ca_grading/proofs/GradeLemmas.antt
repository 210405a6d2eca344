-- What `grade` finds, from what its stages find.
use Rattle.std.proofs.Common.{ℕ, ◌<◌, ◌^◌, List, length, Option, arith}
use Rattle.ca_store.specs.Store.{Files}
use Rattle.ca_linked.specs.Linked.{LinkedChip}
use Rattle.ca_view.specs.Core.{core_of}
use Rattle.ca_expected.specs.Expected.{AreExpected}
use Rattle.ca_grade.specs.declared.grade.Grade.{Grade}
use Rattle.ca_grade.specs.Graded.{AreGraded}
use Rattle.ca_engine.specs.ChipTask.{task_of}
use Rattle.ca_stil_pairs.specs.declared.file.StilFile.{StilFile}
use Rattle.ca_load.specs.Files.{OfFile}
use Rattle.ca_load.proofs.ReadLemmas.{of_file_then}
use Rattle.ca_patterns.specs.declared.patterns.TheConstants.{MAX_STIL}
use Rattle.ca_patterns.specs.Patterns.{IsPatternsOf, AreFew}
use Rattle.ca_grading.specs.Grading.{ListsPairs, AreGradesByFile}

-- pairs that are listed have numbers of 32 bits
pub few_numbers : (file : StilFile) → AreFew file → length file.pairs < 2 ^ 32
few_numbers file few = omega (arith, few)

-- the grades of the chip of the files
pub are_grades : (files : Option Files) (stil : List ℕ) (chip : LinkedChip) (chains : List (List ℕ)) (file : StilFile)
    (grades : List Grade) → OfFile files stil MAX_STIL (IsPatternsOf chip chains file) → AreFew file
    → AreGraded (task_of chip 0) file.pairs grades → AreExpected (core_of chip) file.pairs file.expected
    → AreGradesByFile files stil chip chains file.pairs grades
are_grades files stil chip chains file grades held few graded right = record {
  graded = graded;
  few = few;
  of_file = of_file_then files stil MAX_STIL (IsPatternsOf chip chains file) (ListsPairs chip chains file.pairs)
      (λ bytes is. record { expected = file.expected; is = is; right = right }) held;
}
