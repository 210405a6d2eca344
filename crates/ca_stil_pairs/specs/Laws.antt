-- What was written of a chip is read back.
use Rattle.std.specs.Prelude.{ℕ, ◌≡◌, ◌^◌, ◌<◌, Bool, true, List, Ok}
use Rattle.ca_net.specs.declared.trit.Trit.{Trit}
use Rattle.ca_stil.specs.declared.chip.StilChip.{StilChip}
use Rattle.ca_stil.specs.Chip.{longest, AreOf}
use Rattle.ca_stil.specs.Text.{stil_text}
use Rattle.ca_stil_form.specs.Reading.{whole}
use Rattle.ca_stil_form.specs.Tokens.{tokens_of}
use Rattle.ca_stil_form.specs.Value.{stil_value}
use Rattle.ca_stil_form.specs.Whole.{Stil, stil_form}
use Rattle.ca_stil_pairs.specs.declared.file.StilFile.{StilFile}
use Rattle.ca_stil_pairs.specs.declared.read.StilFault.{StilFault}
use Rattle.ca_stil_pairs.specs.declared.read.StilFault.TheVariants.{NoMemory}
use Rattle.ca_stil_pairs.specs.Chip.{chip_part, part_of, IsCovered}
use Rattle.ca_stil_pairs.specs.File.{IsFileOf, IsCause}

-- the file has these pairs and expected values
pub record Has (file : StilFile) (pairs : List (List Bool)) (expected : List (List Trit)) : Type 0 where
  pub pairs_are : file.pairs ≡ pairs
  pub expected_are : file.expected ≡ expected

-- a text is one file of a chip at most
abbrev pub HasOneFile : Type 0
HasOneFile = (chip : StilChip) (bytes : List ℕ) (file other : StilFile) → IsCovered chip
    → IsFileOf chip bytes file → IsFileOf chip bytes other → Has file other.pairs other.expected

-- the text of pairs and expected values of a chip is the file of these, and has no fault
pub record IsReadBack (chip : StilChip) (bytes : List ℕ) (pairs : List (List Bool))
    (expected : List (List Trit)) : Type 0 where
  pub files : (file : StilFile) → IsFileOf chip bytes file → Has file pairs expected
  pub faults : (fault : StilFault) → IsCause chip bytes fault → fault ≡ NoMemory

-- so it is of each chip whose values the form allows
abbrev pub WrittenIsReadBack : Type 0
WrittenIsReadBack = (chip : StilChip) (pairs : List (List Bool)) (expected : List (List Trit))
    → IsCovered chip
    → longest chip.chains < 2 ^ 64 → AreOf chip pairs expected
    → stil_form.allowed (stil_value chip pairs expected) ≡ true
    → IsReadBack chip (stil_text chip pairs expected) pairs expected

-- the text is a file of the chip
pub record HasFile (chip : StilChip) (bytes : List ℕ) : Type 0 where
  pub file : StilFile
  pub is : IsFileOf chip bytes file

-- a text of the form whose signals, groups and chains are those of a chip is a file of the chip
abbrev pub TextOfChipIsFile : Type 0
TextOfChipIsFile = (chip : StilChip) (bytes : List ℕ) (value : Stil) → IsCovered chip
    → longest chip.chains < 2 ^ 64 → whole stil_form (tokens_of bytes) ≡ Ok value
    → chip_part value ≡ part_of chip → HasFile chip bytes
