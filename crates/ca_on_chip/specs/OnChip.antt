-- What the own words of a command on a chip ask for, and why they ask for nothing.
use Rattle.std.specs.Prelude.{◌≡◌, ◌≢◌, ◌⊎◌, ℕ, Bool, List, Option, ⊤}
use Rattle.ca_store.specs.Store.{Files}
use Rattle.ca_net.specs.declared.trit.Trit.{Trit}
use Rattle.ca_net.specs.Circuit.{Circuit}
use Rattle.ca_flat.specs.declared.chip_defect.ChipDefect.{ChipDefect}
use Rattle.ca_flat.specs.Flat.{flat}
use Rattle.ca_linked.specs.Linked.{LinkedChip}
use Rattle.ca_view.specs.Core.{core_of}
use Rattle.ca_fault.specs.declared.fault.Fault.{Fault}
use Rattle.ca_fault.specs.declared.fault.Fault.TheVariants.{BadVector, NoInstance, NoDefect, TooManyPairs, NoMemory}
use Rattle.ca_load.specs.Texts.{InputFiles, Inputs, OfInputs}
use Rattle.ca_load.specs.Chips.{IsChipOf, IsTraced}
use Rattle.ca_load.specs.Causes.{IsLoadCause}
use Rattle.ca_request.specs.Vectors.{dash, letters_of}
use Rattle.ca_request.specs.Asked.{FitsInputs, IsAskedDefect, IsDefectCause, IsVectorsCause}
use Rattle.ca_simulate.specs.Simulated.{pair_of, AreSimulated}
use Rattle.ca_credit.specs.declared.verdict.Verdict.{Verdict}
use Rattle.ca_credit.specs.Good.{IsGood}
use Rattle.ca_generate.specs.declared.fault.GenerateFault.TheVariants as generate
use Rattle.ca_generate.specs.GenerateFault.{IsCause}
use Rattle.ca_engine.specs.ChipTask.{task_of}
use Rattle.ca_words.specs.Budget.{HasBudget}

-- where the files are known, the chip is that of what they read as
abbrev pub IsChipOfFiles : Option Files → InputFiles → LinkedChip → Type 0
IsChipOfFiles files names chip = OfInputs files names (λ inputs. IsChipOf inputs chip)

-- it is, and each of its scan instances is on a whole chain
pub record IsTracedChipOf (files : Option Files) (names : InputFiles) (chip : LinkedChip) : Type 0 where
  pub of_files : IsChipOfFiles files names chip
  pub traced : IsTraced chip

-- the inputs give a chip with chains, of which this holds
pub record GiveChipWith (Holds : LinkedChip → Type 0) (inputs : Inputs) : Type 0 where
  pub chip : LinkedChip
  pub is : IsChipOf inputs chip
  pub traced : IsTraced chip
  pub holds : Holds chip

-- where the files are known, they give a chip with chains, of which this holds
abbrev pub OfChip : Option Files → InputFiles → (LinkedChip → Type 0) → Type 0
OfChip files names Holds = OfInputs files names (GiveChipWith Holds)

-- the network is the flat one of the chip, with the defect that the words name, if they name one
pub record IsFlatOf (instance defect : List ℕ) (chip : LinkedChip) (net : Circuit) : Type 0 where
  pub given : Option ChipDefect
  pub asked : IsAskedDefect chip instance defect given
  pub is : net ≡ flat (core_of chip) given

-- each vector has one letter for each chip input, and the values are those at which the observed outputs end
-- under the two vectors, without the defect that the words name and with it, if they name one
pub record AreEndsOf (instance defect first last : List ℕ) (chip : LinkedChip) (good faulty : List Trit)
    : Type 0 where
  pub first_fits : FitsInputs chip first
  pub last_fits : FitsInputs chip last
  pub given : Option ChipDefect
  pub asked : IsAskedDefect chip instance defect given
  pub ends : AreSimulated (core_of chip) given (pair_of (letters_of first) (letters_of last)) good faulty

-- the fault of an instance and a defect reports the word that was typed, whatever is known of the store
abbrev pub IsDefectWord : List ℕ → List ℕ → Fault → Type 0
IsDefectWord instance defect (NoInstance typed) = (typed ≡ instance) × (instance ≢ dash)
IsDefectWord instance defect (NoDefect typed) = (typed ≡ defect) × (instance ≢ dash)
IsDefectWord instance defect _ = ⊥

-- so does that of two vectors
abbrev pub IsVectorWord : List ℕ → List ℕ → Fault → Type 0
IsVectorWord first last (BadVector typed) = (typed ≡ first) ⊎ (typed ≡ last)
IsVectorWord first last _ = ⊥

-- why two vectors, an instance and a defect aren't of a chip: the vectors come before the defect
abbrev pub IsSimulationCause : List ℕ → List ℕ → List ℕ → List ℕ → Fault → LinkedChip → Type 0
IsSimulationCause instance defect first last fault chip =
    IsVectorsCause chip first last fault
    ⊎ (FitsInputs chip first × (FitsInputs chip last × IsDefectCause chip instance defect fault))

-- why the own words of `flatten` aren't of the chip of the files
abbrev pub IsFlattenCause : InputFiles → List ℕ → List ℕ → Option Files → Fault → Type 0
IsFlattenCause names instance defect files fault =
    IsDefectWord instance defect fault × OfChip files names (λ chip. IsDefectCause chip instance defect fault)

-- why those of `simulate` aren't
abbrev pub IsSimulateCause : InputFiles → List ℕ → List ℕ → List ℕ → List ℕ → Option Files → Fault → Type 0
IsSimulateCause names instance defect first last files fault =
    (IsVectorWord first last fault ⊎ IsDefectWord instance defect fault)
    × OfChip files names (IsSimulationCause instance defect first last fault)

-- why `flatten` found no network: there is no chip, or its own words aren't of it
abbrev pub IsFlatCause : InputFiles → List ℕ → List ℕ → Option Files → ℕ → ℕ → Fault → Type 0
IsFlatCause names instance defect files before after fault =
    IsLoadCause names files before after fault ⊎ IsFlattenCause names instance defect files fault

-- why `simulate` found no values
abbrev pub IsEndsCause : InputFiles → List ℕ → List ℕ → List ℕ → List ℕ → Option Files → ℕ → ℕ
    → Fault → Type 0
IsEndsCause names instance defect first last files before after fault =
    IsLoadCause names files before after fault ⊎ IsSimulateCause names instance defect first last files fault

-- the pairs, their aims and the verdicts keep the promise for the chip's defects and the budget that a word
-- says
pub record AreTestsOf (budget_word : List ℕ) (chip : LinkedChip) (pairs : List (List Bool)) (aims : List ℕ)
    (verdicts : List Verdict) : Type 0 where
  pub budget : ℕ
  pub said : HasBudget budget_word budget
  pub good : IsGood (task_of chip budget) pairs aims verdicts

-- the fault has pairs, whatever is known of the store
abbrev pub IsPairsFault : Fault → Type 0
IsPairsFault (TooManyPairs pairs aims) = ⊤
IsPairsFault _ = ⊥

-- why a chip has no tests: one pair more was found than may be listed
abbrev pub IsPairsCause : ℕ → Fault → LinkedChip → Type 0
IsPairsCause budget (TooManyPairs pairs aims) chip =
    IsCause (task_of chip budget) (generate.TooManyPairs pairs aims)
IsPairsCause budget _ chip = ⊥

-- the cause of a chip that has none, or there was no memory
abbrev pub IsTestsStage : ℕ → LinkedChip → Fault → Type 0
IsTestsStage budget chip fault = (fault ≡ NoMemory) ⊎ IsPairsCause budget fault chip

-- why the chip of the files has none
abbrev pub AreTooMany : InputFiles → ℕ → Option Files → Fault → Type 0
AreTooMany names budget files fault = IsPairsFault fault × OfChip files names (IsPairsCause budget fault)

-- why the chip of the files has none for the budget that a word says
pub record IsAtpgCause (names : InputFiles) (budget_word : List ℕ) (files : Option Files) (fault : Fault)
    : Type 0 where
  pub budget : ℕ
  pub said : HasBudget budget_word budget
  pub many : AreTooMany names budget files fault

-- why `atpg` found no tests
abbrev pub IsTestsCause : InputFiles → ℕ → Option Files → ℕ → ℕ → Fault → Type 0
IsTestsCause names budget files before after fault =
    IsLoadCause names files before after fault ⊎ AreTooMany names budget files fault
