-- The patterns of a chip that a file has, and why the files of a command give none.
use Rattle.std.specs.Prelude.{◌≡◌, ◌≤◌, ◌<◌, ◌^◌, ◌⊎◌, ℕ, List, length, Option, ⊤}
use Rattle.ca_store.specs.Store.{Files}
use Rattle.ca_linked.specs.Linked.{LinkedChip}
use Rattle.ca_view.specs.Core.{core_of}
use Rattle.ca_scan.specs.ChainFault.{AreAllChains}
use Rattle.ca_credit.specs.declared.limit.TheConstants.{MOST_PAIRS}
use Rattle.ca_expected.specs.declared.wrong.WrongValue.{WrongValue}
use Rattle.ca_expected.specs.Expected.{AreExpected}
use Rattle.ca_expected.specs.Wrong.{IsFirstWrong}
use Rattle.ca_grade.specs.declared.judged.GradeFault.{GradeFault}
use Rattle.ca_grade.specs.declared.judged.GradeFault.TheVariants as grade
use Rattle.ca_stil_read.specs.Text.{IsFaultyAt}
use Rattle.ca_stil_pairs.specs.declared.file.StilFile.{StilFile}
use Rattle.ca_stil_pairs.specs.File.{IsFileOf, IsOfOther}
use Rattle.ca_chip_stil.specs.ChipStil.{stil_chip}
use Rattle.ca_fault.specs.declared.fault.LimitKind.TheVariants as limit
use Rattle.ca_fault.specs.declared.fault.Fault.{Fault}
use Rattle.ca_fault.specs.declared.fault.Fault.TheVariants.{Stil, StilChip, Expected, Limit, NoMemory}
use Rattle.ca_load.specs.Files.{IsFileWith, OfFile, IsReadCause}
use Rattle.ca_load.specs.Texts.{InputFiles, Inputs, OfInputs}
use Rattle.ca_load.specs.Chips.{IsChipOf}
use Rattle.ca_load.specs.Causes.{IsLoadCause}
use Rattle.ca_patterns.specs.declared.patterns.TheConstants.{MAX_STIL}

-- the text is a file of patterns of the chip with these chains, with these pairs and expected values
abbrev pub IsPatternsOf : LinkedChip → List (List ℕ) → StilFile → List ℕ → Type 0
IsPatternsOf chip chains file bytes = IsFileOf (stil_chip chip chains) bytes file

-- there are no more pairs than may be listed
abbrev pub AreFew : StilFile → Type 0
AreFew file = length file.pairs ≤ MOST_PAIRS

-- the text is a file of patterns of the chip, with this many pairs, which are too many
pub record HasTooMany (chip : LinkedChip) (chains : List (List ℕ)) (count : ℕ) (bytes : List ℕ) : Type 0
  where
    pub file : StilFile
    pub is : IsPatternsOf chip chains file bytes
    pub counted : count ≡ length file.pairs
    pub many : MOST_PAIRS < count

-- the text is one with pairs enough to be listed, and this is the first expected value that isn't what the
-- good chip ends with: the pair, and the observed output
pub record HasWrongValue (chip : LinkedChip) (chains : List (List ℕ)) (pair output : ℕ) (bytes : List ℕ)
    : Type 0 where
  pub file : StilFile
  pub is : IsPatternsOf chip chains file bytes
  pub few : AreFew file
  pub wrong : IsFirstWrong (core_of chip) file.pairs file.expected (record { pair = pair; output = output })

-- why a text has no patterns of the chip, or wrong ones: its first faulty line, where it isn't of the form;
-- else it is of another chip; else it has too many pairs; else the first expected value that is wrong
abbrev pub IsStilCause : LinkedChip → List (List ℕ) → Fault → List ℕ → Type 0
IsStilCause chip chains (Stil line) bytes = IsFaultyAt bytes line
IsStilCause chip chains StilChip bytes = IsOfOther (stil_chip chip chains) bytes
IsStilCause chip chains (Limit limit.Pairs count) bytes = HasTooMany chip chains count bytes
IsStilCause chip chains (Expected pair output) bytes = HasWrongValue chip chains pair output bytes
IsStilCause chip chains _ bytes = ⊥

-- the fault is one of a file of patterns
abbrev pub IsStilFault : Fault → Type 0
IsStilFault (Stil line) = ⊤
IsStilFault StilChip = ⊤
IsStilFault (Limit limit.Pairs count) = ⊤
IsStilFault (Expected pair output) = ⊤
IsStilFault _ = ⊥

-- the fault for an expected value that is wrong, or for no memory
abbrev pub fault_of_value : GradeFault → Fault
fault_of_value (grade.Expected wrong) = Expected wrong.pair wrong.output
fault_of_value grade.NoMemory = NoMemory

-- the number of the pair, if the fault has one, is one of 32 bits
abbrev pub IsSmall : GradeFault → Type 0
IsSmall (grade.Expected wrong) = wrong.pair < 2 ^ 32
IsSmall grade.NoMemory = ⊤

-- the file of this name is there, is no longer than it may be, and has patterns of the chip with these
-- chains: no more pairs than may be listed, and each expected value is what the good chip ends with
pub record FitsPatterns (reported : Files) (name : List ℕ) (chip : LinkedChip) (chains : List (List ℕ))
    : Type 0 where
  pub file : StilFile
  pub few : AreFew file
  pub right : AreExpected (core_of chip) file.pairs file.expected
  pub there : IsFileWith reported name MAX_STIL (IsPatternsOf chip chains file)

-- the inputs give a chip with these whole chains, of which this holds
pub record GiveTraced (Holds : LinkedChip → List (List ℕ) → Type 0) (inputs : Inputs) : Type 0 where
  pub chip : LinkedChip
  pub chains : List (List ℕ)
  pub is : IsChipOf inputs chip
  pub all : AreAllChains chip chains
  pub holds : Holds chip chains

-- where the files are known, they give a chip with chains, of which this holds
abbrev pub OfTraced : Option Files → InputFiles → (LinkedChip → List (List ℕ) → Type 0) → Type 0
OfTraced files names Holds = OfInputs files names (GiveTraced Holds)

-- why the file of patterns was not read, for the chip of the files, whatever chip that is
abbrev pub IsUnreadCause : InputFiles → List ℕ → Option Files → ℕ → ℕ → Fault → Type 0
IsUnreadCause names stil files before after fault =
    OfTraced files names (λ chip chains. ⊤) × IsReadCause stil files MAX_STIL before after fault

-- why it has no patterns of the chip of the files, or wrong ones
abbrev pub IsTextCause : InputFiles → List ℕ → Option Files → Fault → Type 0
IsTextCause names stil files fault = IsStilFault fault
    × OfTraced files names (λ chip chains. OfFile files stil MAX_STIL (IsStilCause chip chains fault))

-- why there are no patterns of the chip of the files, or wrong ones
abbrev pub IsPatternsCause : InputFiles → List ℕ → Option Files → ℕ → ℕ → Fault → Type 0
IsPatternsCause names stil files before after fault =
    IsUnreadCause names stil files before after fault ⊎ IsTextCause names stil files fault

-- why the files give no chip with patterns, or wrong ones: the chip comes first
abbrev pub IsLoadedCause : InputFiles → List ℕ → Option Files → ℕ → ℕ → Fault → Type 0
IsLoadedCause names stil files before after fault =
    IsLoadCause names files before after fault ⊎ IsPatternsCause names stil files before after fault
