-- Right patterns of a chip, and a file that is read after them.
use Rattle.std.specs.Prelude.{ℕ, List, Option}
use Rattle.ca_store.specs.Store.{Files}
use Rattle.ca_linked.specs.Linked.{LinkedChip}
use Rattle.ca_view.specs.Core.{core_of}
use Rattle.ca_expected.specs.Expected.{AreExpected}
use Rattle.ca_stil_pairs.specs.declared.file.StilFile.{StilFile}
use Rattle.ca_load.specs.Files.{OfFile}
use Rattle.ca_load.specs.Texts.{InputFiles}
use Rattle.ca_patterns.specs.declared.patterns.TheConstants.{MAX_STIL}
use Rattle.ca_patterns.specs.Patterns.{IsPatternsOf, AreFew, OfTraced}

-- the text is a file of patterns of the chip with these chains, which has no more pairs than may be listed
-- and right expected values, and of which this holds
pub record HasRight (chip : LinkedChip) (chains : List (List ℕ)) (Holds : StilFile → Type 0) (bytes : List ℕ)
    : Type 0 where
  pub file : StilFile
  pub is : IsPatternsOf chip chains file bytes
  pub few : AreFew file
  pub right : AreExpected (core_of chip) file.pairs file.expected
  pub holds : Holds file

-- where the files are known, they give a chip with chains, and the file of this name right patterns of it, of
-- which this holds
abbrev pub OfRight : Option Files → InputFiles → List ℕ → (LinkedChip → StilFile → Type 0) → Type 0
OfRight files names stil Holds =
    OfTraced files names (λ chip chains. OfFile files stil MAX_STIL (HasRight chip chains (Holds chip)))
