-- What `replay` asks for of a chip, and why it asks for nothing.
use Rattle.std.specs.Prelude.{◌≡◌, ◌⊎◌, ℕ, List, Option}
use Rattle.ca_store.specs.Store.{Files}
use Rattle.ca_net.specs.declared.trit.Trit.{Trit}
use Rattle.ca_flat.specs.declared.chip_defect.ChipDefect.{ChipDefect}
use Rattle.ca_linked.specs.Linked.{LinkedChip}
use Rattle.ca_view.specs.Core.{core_of}
use Rattle.ca_fault.specs.declared.fault.Fault.{Fault}
use Rattle.ca_fault.specs.declared.fault.Fault.TheVariants.{Order}
use Rattle.ca_load.specs.Texts.{InputFiles}
use Rattle.ca_load.specs.Files.{OfFile, IsReadCause}
use Rattle.ca_load.specs.Causes.{IsLoadCause}
use Rattle.ca_request.specs.Vectors.{letters_of}
use Rattle.ca_request.specs.Asked.{FitsInputs, IsAskedDefect}
use Rattle.ca_chip_replay.specs.ChipRun.{RunOf}
use Rattle.ca_simulate.specs.Simulated.{pair_of}
use Rattle.ca_simulate.specs.OneRun.{AreRunEnds, IsFaultyLine}
use Rattle.ca_on_chip.specs.declared.replays.TheConstants.{MAX_ORDER}
use Rattle.ca_on_chip.specs.OnChip.{OfChip, IsSimulateCause}

-- the runs of the chip between the two vectors, with this defect or without one
abbrev pub run_of : LinkedChip → Option ChipDefect → List ℕ → List ℕ → RunOf
run_of chip given first last =
    record { chip = core_of chip; given = given; pair = pair_of (letters_of first) (letters_of last) }

-- the run is one of the chip: each vector has one letter for each chip input, and the defect is the one that
-- the words name, if they name one
pub record IsAskedRun (instance defect first last : List ℕ) (chip : LinkedChip) (run : RunOf) : Type 0 where
  pub first_fits : FitsInputs chip first
  pub last_fits : FitsInputs chip last
  pub given : Option ChipDefect
  pub asked : IsAskedDefect chip instance defect given
  pub run_is : run ≡ run_of chip given first last

-- the values are those of the observed outputs at the end of the run that the words and the text name
pub record AreRunEndsOf (instance defect first last : List ℕ) (chip : LinkedChip) (values : List Trit)
    (text : List ℕ) : Type 0 where
  pub run : RunOf
  pub asked : IsAskedRun instance defect first last chip run
  pub ends : AreRunEnds run text values

-- this line of the text is its first that isn't allowed in the run that the words name
pub record HasFaultyLine (instance defect first last : List ℕ) (line : ℕ) (chip : LinkedChip) (text : List ℕ)
    : Type 0 where
  pub run : RunOf
  pub asked : IsAskedRun instance defect first last chip run
  pub faulty : IsFaultyLine run line text

-- the words name a run of the chip
abbrev pub HasRun : List ℕ → List ℕ → List ℕ → List ℕ → LinkedChip → Type 0
HasRun instance defect first last chip = (run : RunOf) × IsAskedRun instance defect first last chip run

-- why the file of events gives none for the run of the files' chip that the words name
abbrev pub IsOrderCause : InputFiles → List ℕ → List ℕ → List ℕ → List ℕ → List ℕ → Option Files → ℕ → ℕ
    → Fault → Type 0
IsOrderCause names instance defect first last order files before after (Order line) =
    OfChip files names (λ chip. OfFile files order MAX_ORDER
    (HasFaultyLine instance defect first last line chip))
IsOrderCause names instance defect first last order files before after fault =
    OfChip files names (HasRun instance defect first last)
    × IsReadCause order files MAX_ORDER before after fault

-- why the chip of the files has no such run
abbrev pub IsReplayCause : InputFiles → List ℕ → List ℕ → List ℕ → List ℕ → List ℕ → Option Files → ℕ → ℕ
    → Fault → Type 0
IsReplayCause names instance defect first last order files before after fault =
    IsSimulateCause names instance defect first last files fault
    ⊎ IsOrderCause names instance defect first last order files before after fault

-- why `replay` found no values: there is no chip, or it has no such run
abbrev pub IsRunCause : InputFiles → List ℕ → List ℕ → List ℕ → List ℕ → List ℕ → Option Files → ℕ → ℕ
    → Fault → Type 0
IsRunCause names instance defect first last order files before after fault =
    IsLoadCause names files before after fault
    ⊎ IsReplayCause names instance defect first last order files before after fault
