-- What words name of a linked chip: vectors of its inputs, a library instance, and a defect of its cell.
use Rattle.std.specs.Prelude.{ℕ, ◌≡◌, ◌≢◌, ◌⊎◌, ◌↔◌, List, find, length, Option, Some, None, IsNone}
use Rattle.ca_cell.specs.declared.raw.RawCell.{RawCell}
use Rattle.ca_cell.specs.declared.defect.Defect.{Defect}
use Rattle.ca_cell.specs.List.{defects_of}
use Rattle.ca_cell.specs.Name.{is_called}
use Rattle.ca_flat.specs.declared.chip_defect.ChipDefect.{ChipDefect}
use Rattle.ca_flat.specs.Chip.{cell_at}
use Rattle.ca_linked.specs.Linked.{LinkedChip, inputs_of, IsLibrary}
use Rattle.ca_linked.specs.Instances.{IsNamedGate}
use Rattle.ca_view.specs.Core.{core_of}
use Rattle.ca_flat.specs.Chip.{IsDefectIn}
use Rattle.ca_fault.specs.declared.fault.Fault.{Fault}
use Rattle.ca_fault.specs.declared.fault.Fault.TheVariants.{BadVector, NoInstance, NoDefect, NoMemory}
use Rattle.ca_request.specs.Vectors.{dash, letters_of}

-- the vector has one letter for each chip input
abbrev pub FitsInputs : LinkedChip → List ℕ → Type 0
FitsInputs chip word = length (letters_of word) ≡ length (inputs_of chip)

-- the defect that a word names, in any case
abbrev pub defect_called : RawCell → List ℕ → Option Defect
defect_called raw word = find (is_called raw word) (defects_of raw)

-- both words are a dash, or neither is
abbrev pub AreBothOrNeither : List ℕ → List ℕ → Type 0
AreBothOrNeither instance defect = (instance ≡ dash) ↔ (defect ≡ dash)

-- the words name the defect: its instance by the name of a library instance, and the defect by its name in
-- the instance's cell
pub record IsNamedDefect (chip : LinkedChip) (instance defect : List ℕ) (given : ChipDefect) : Type 0 where
  pub some : instance ≢ dash
  pub named : IsNamedGate chip instance given.instance
  pub called : defect_called (cell_at (core_of chip) given.instance) defect ≡ Some given.defect

-- what the words ask for: none where both are a dash, and else the defect that they name
abbrev pub IsAskedDefect : LinkedChip → List ℕ → List ℕ → Option ChipDefect → Type 0
IsAskedDefect chip instance defect None = (instance ≡ dash) × (defect ≡ dash)
IsAskedDefect chip instance defect (Some given) = IsNamedDefect chip instance defect given

-- the defect is one of a library instance, where there is one
abbrev pub IsLibraryDefect : LinkedChip → Option ChipDefect → Type 0
IsLibraryDefect chip None = Unit {0}
IsLibraryDefect chip (Some given) = IsDefectIn (core_of chip) given × IsLibrary chip given.instance

-- a library instance has the name, and its cell has no defect of that name
pub record LacksDefect (chip : LinkedChip) (instance defect : List ℕ) : Type 0 where
  pub u : ℕ
  pub named : IsNamedGate chip instance u
  pub lacks : IsNone (defect_called (cell_at (core_of chip) u) defect)

-- why words ask for no defect of the chip: no library instance has the name, or its cell lacks the defect
abbrev pub IsDefectCause : LinkedChip → List ℕ → List ℕ → Fault → Type 0
IsDefectCause chip instance defect (NoInstance typed) =
    (typed ≡ instance) × ((instance ≢ dash) × ((u : ℕ) → IsNamedGate chip instance u → ⊥))
IsDefectCause chip instance defect (NoDefect typed) =
    (typed ≡ defect) × ((instance ≢ dash) × LacksDefect chip instance defect)
IsDefectCause chip instance defect _ = ⊥

-- why a word names no library instance of the chip: none has the name
abbrev pub IsInstanceCause : LinkedChip → List ℕ → Fault → Type 0
IsInstanceCause chip instance (NoInstance typed) =
    (typed ≡ instance) × ((u : ℕ) → IsNamedGate chip instance u → ⊥)
IsInstanceCause chip instance _ = ⊥

-- why two vectors aren't of the chip: the first of them that has more or fewer letters than it has inputs
abbrev pub IsVectorsCause : LinkedChip → List ℕ → List ℕ → Fault → Type 0
IsVectorsCause chip first last (BadVector typed) =
    ((typed ≡ first) × ¬ (FitsInputs chip first))
    ⊎ ((typed ≡ last) × (FitsInputs chip first × ¬ (FitsInputs chip last)))
IsVectorsCause chip first last _ = ⊥

-- the same, or there was no memory
abbrev pub IsDefectStage : LinkedChip → List ℕ → List ℕ → Fault → Type 0
IsDefectStage chip instance defect fault = (fault ≡ NoMemory) ⊎ IsDefectCause chip instance defect fault

abbrev pub IsInstanceStage : LinkedChip → List ℕ → Fault → Type 0
IsInstanceStage chip instance fault = (fault ≡ NoMemory) ⊎ IsInstanceCause chip instance fault

abbrev pub IsVectorsStage : LinkedChip → List ℕ → List ℕ → Fault → Type 0
IsVectorsStage chip first last fault = (fault ≡ NoMemory) ⊎ IsVectorsCause chip first last fault
