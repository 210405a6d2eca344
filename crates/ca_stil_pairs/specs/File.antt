-- What a text is to a chip: a file of its pairs, or why it is none.
use Rattle.std.specs.Prelude.{ℕ, ◌≡◌, ◌≢◌, List, Ok}
use Rattle.ca_stil.specs.declared.chip.StilChip.{StilChip}
use Rattle.ca_stil.specs.Chip.{AreOf}
use Rattle.ca_stil_form.specs.Reading.{whole}
use Rattle.ca_stil_form.specs.Tokens.{tokens_of}
use Rattle.ca_stil_form.specs.Value.{stil_value}
use Rattle.ca_stil_form.specs.Whole.{Stil, stil_form}
use Rattle.ca_stil_read.specs.Text.{IsFaultyAt}
use Rattle.ca_stil_pairs.specs.declared.file.StilFile.{StilFile}
use Rattle.ca_stil_pairs.specs.declared.read.StilFault.{StilFault}
use Rattle.ca_stil_pairs.specs.declared.read.StilFault.TheVariants as fault
use Rattle.ca_stil_pairs.specs.Chip.{chip_part, part_of}

-- the pairs and the expected values are of the chip, and the text reads as its values with these
pub record IsFileOf (chip : StilChip) (bytes : List ℕ) (file : StilFile) : Type 0 where
  pub are : AreOf chip file.pairs file.expected
  pub reads : whole stil_form (tokens_of bytes) ≡ Ok (stil_value chip file.pairs file.expected)

-- the text is of the form, and its signals, its groups or its chains aren't those of the chip
pub record IsOfOther (chip : StilChip) (bytes : List ℕ) : Type 0 where
  pub value : Stil
  pub reads : whole stil_form (tokens_of bytes) ≡ Ok value
  pub other : chip_part value ≢ part_of chip

abbrev pub IsCause : StilChip → List ℕ → StilFault → Type 0
IsCause chip bytes (fault.At line) = IsFaultyAt bytes line
IsCause chip bytes fault.OtherChip = IsOfOther chip bytes
IsCause chip bytes fault.NoMemory = Unit {0}
