-- What `grade` finds of a chip.
use Rattle.std.specs.Prelude.{◌≤◌, ℕ, Bool, List, length, Option}
use Rattle.ca_store.specs.Store.{Files}
use Rattle.ca_net.specs.declared.trit.Trit.{Trit}
use Rattle.ca_linked.specs.Linked.{LinkedChip}
use Rattle.ca_view.specs.Core.{core_of}
use Rattle.ca_credit.specs.declared.limit.TheConstants.{MOST_PAIRS}
use Rattle.ca_expected.specs.Expected.{AreExpected}
use Rattle.ca_grade.specs.declared.grade.Grade.{Grade}
use Rattle.ca_grade.specs.Graded.{AreGraded}
use Rattle.ca_engine.specs.ChipTask.{task_of}
use Rattle.ca_load.specs.Files.{OfFile}
use Rattle.ca_patterns.specs.declared.patterns.TheConstants.{MAX_STIL}
use Rattle.ca_patterns.specs.Patterns.{IsPatternsOf}

-- the text is a file of patterns of the chip with these pairs, and each of its expected values is what the
-- good chip ends with
pub record ListsPairs (chip : LinkedChip) (chains : List (List ℕ)) (pairs : List (List Bool)) (text : List ℕ)
    : Type 0 where
  pub expected : List (List Trit)
  pub is : IsPatternsOf chip chains (record { pairs = pairs; expected = expected }) text
  pub right : AreExpected (core_of chip) pairs expected

-- the grades are those of the chip's defects by the pairs, of which there are no more than may be listed; and
-- where the files are known, these are the pairs of the file of this name
pub record AreGradesByFile (files : Option Files) (stil : List ℕ) (chip : LinkedChip)
    (chains : List (List ℕ)) (pairs : List (List Bool)) (grades : List Grade) : Type 0 where
  pub graded : AreGraded (task_of chip 0) pairs grades
  pub few : length pairs ≤ MOST_PAIRS
  pub of_file : OfFile files stil MAX_STIL (ListsPairs chip chains pairs)
