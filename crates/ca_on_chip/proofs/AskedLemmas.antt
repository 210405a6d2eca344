-- What the own words of a command on a chip ask for, from what its stages find.
use Rattle.std.proofs.Common.{ℕ, ◌≡◌, ◌⊎◌, inl, inr, List, Option, Some, None}
use Rattle.std.specs.List.{All}
use Rattle.ca_store.specs.Store.{Files}
use Rattle.ca_net.specs.declared.trit.Trit.{Trit}
use Rattle.ca_net.specs.Circuit.{Circuit}
use Rattle.ca_flat_text.specs.FlatText.{HasLine}
use Rattle.ca_flat.specs.declared.chip_defect.ChipDefect.{ChipDefect}
use Rattle.ca_flat.specs.Chip.{IsChipDefect}
use Rattle.ca_flat.specs.Flat.{flat}
use Rattle.ca_linked.specs.Linked.{LinkedChip, IsWired}
use Rattle.ca_scan.specs.ChainFault.{AreAllChains}
use Rattle.ca_view.specs.Core.{core_of}
use Rattle.ca_flatten.specs.Laws.{FlatHasLines}
use Rattle.ca_fault.specs.declared.fault.Fault.{Fault}
use Rattle.ca_fault.specs.declared.fault.Fault.TheVariants.{BadVector, NoInstance, NoDefect, TooManyPairs}
use Rattle.ca_load.specs.Texts.{InputFiles}
use Rattle.ca_request.specs.Vectors.{letters_of}
use Rattle.ca_request.specs.Asked.{FitsInputs, IsAskedDefect, IsLibraryDefect, IsDefectCause, IsVectorsCause}
use Rattle.ca_request.specs.Asked.{IsDefectStage, IsVectorsStage}
use Rattle.ca_simulate.specs.Simulated.{pair_of, AreSimulated}
use Rattle.ca_on_chip.specs.OnChip.{IsChipOfFiles, IsTracedChipOf, OfChip, IsFlatOf, AreEndsOf, IsDefectWord}
use Rattle.ca_on_chip.specs.OnChip.{IsVectorWord}
use Rattle.ca_on_chip.specs.OnChip.{IsSimulationCause, IsFlatCause, IsEndsCause}
use Rattle.ca_on_chip.specs.code.OnChip.{IsSimulationStage}
use Rattle.ca_on_chip.specs.OnChip.{IsPairsFault, IsPairsCause, IsTestsCause}
use Rattle.ca_on_chip.specs.OnChip.{IsTestsStage}

-- what holds of the chip of the files
pub of_chip : (files : Option Files) (names : InputFiles) (chip : LinkedChip) (P : LinkedChip → Type 0)
    → IsTracedChipOf files names chip → P chip → OfChip files names P
of_chip files names chip P held holds = λ reported is.
    let found = held.of_files reported is in
    (found.0, (found.1.0, record { chip = chip; is = found.1.1; traced = held.traced; holds = holds }))

-- the chip that was read is one with chains
pub is_traced : (files : Option Files) (names : InputFiles) (chip : LinkedChip) (chains : List (List ℕ))
    → IsChipOfFiles files names chip → AreAllChains chip chains → IsTracedChipOf files names chip
is_traced files names chip chains held all = record { of_files = held; traced = (chains, all) }

-- the fault of a defect reports a word that was typed
defect_word : (chip : LinkedChip) (instance defect : List ℕ) (fault : Fault) → IsDefectCause chip instance defect fault
    → IsDefectWord instance defect fault
defect_word chip instance defect (NoInstance typed) (same, (some, lacks)) = (same, some)
defect_word chip instance defect (NoDefect typed) (same, (some, lacks)) = (same, some)
defect_word chip instance defect fault cause = absurd cause

-- so does that of two vectors
vector_word : (chip : LinkedChip) (first last : List ℕ) (fault : Fault) → IsVectorsCause chip first last fault
    → IsVectorWord first last fault
vector_word chip first last (BadVector typed) (inl unfit) = inl unfit.0
vector_word chip first last (BadVector typed) (inr unfit) = inr unfit.0
vector_word chip first last fault cause = absurd cause

pub own_word : (instance defect first last : List ℕ) (fault : Fault) (chip : LinkedChip)
    → IsSimulationCause instance defect first last fault chip
    → IsVectorWord first last fault ⊎ IsDefectWord instance defect fault
own_word instance defect first last fault chip (inl cause) = inl (vector_word chip first last fault cause)
own_word instance defect first last fault chip (inr (fits, (fit, cause))) =
    inr (defect_word chip instance defect fault cause)

-- why a chip of the files has no such flat network
pub at_flat : (files : Option Files) (names : InputFiles) (before after : ℕ) (chip : LinkedChip)
    (instance defect : List ℕ) (fault : Fault) → IsTracedChipOf files names chip
    → IsDefectStage chip instance defect fault → IsFlatCause names instance defect files before after fault
at_flat files names before after chip instance defect fault held (inl memory) = inl (inl (inl (inl memory)))
at_flat files names before after chip instance defect fault held (inr cause) = inr (
  defect_word chip instance defect fault cause,
  of_chip files names chip (λ chip. IsDefectCause chip instance defect fault) held cause,
)

-- why it has no such values
pub at_ends : (files : Option Files) (names : InputFiles) (before after : ℕ) (chip : LinkedChip)
    (instance defect first last : List ℕ) (fault : Fault) → IsTracedChipOf files names chip
    → IsSimulationStage instance defect first last chip fault
    → IsEndsCause names instance defect first last files before after fault
at_ends files names before after chip instance defect first last fault held (inl memory) =
    inl (inl (inl (inl memory)))
at_ends files names before after chip instance defect first last fault held (inr cause) = inr (
  own_word instance defect first last fault chip cause,
  of_chip files names chip (IsSimulationCause instance defect first last fault) held cause,
)

-- one pair more than may be listed is reported
pub pairs_fault : (budget : ℕ) (chip : LinkedChip) (fault : Fault) → IsPairsCause budget fault chip → IsPairsFault fault
pairs_fault budget chip (TooManyPairs pairs aims) cause = tt
pairs_fault budget chip fault cause = absurd cause

-- why a chip of the files has no tests
pub at_tests : (files : Option Files) (names : InputFiles) (before after : ℕ) (chip : LinkedChip) (budget : ℕ) (fault : Fault)
    → IsTracedChipOf files names chip → IsTestsStage budget chip fault → IsTestsCause names budget files before after fault
at_tests files names before after chip budget fault held (inl memory) = inl (inl (inl (inl memory)))
at_tests files names before after chip budget fault held (inr cause) =
    inr (pairs_fault budget chip fault cause, of_chip files names chip (IsPairsCause budget fault) held cause)

-- vectors that aren't of the chip
pub at_vectors : (chip : LinkedChip) (instance defect first last : List ℕ) (fault : Fault)
    → IsVectorsStage chip first last fault → IsSimulationStage instance defect first last chip fault
at_vectors chip instance defect first last fault (inl memory) = inl memory
at_vectors chip instance defect first last fault (inr cause) = inr (inl cause)

-- vectors that are, and a defect that isn't
pub at_defect : (chip : LinkedChip) (instance defect first last : List ℕ) (fault : Fault) → FitsInputs chip first
    → FitsInputs chip last → IsDefectStage chip instance defect fault
    → IsSimulationStage instance defect first last chip fault
at_defect chip instance defect first last fault first_fits last_fits (inl memory) = inl memory
at_defect chip instance defect first last fault first_fits last_fits (inr cause) =
    inr (inr (first_fits, (last_fits, cause)))

-- a defect of a library instance is one of the chip
pub is_chip_defect : (chip : LinkedChip) (given : Option ChipDefect) → IsLibraryDefect chip given
    → IsChipDefect (core_of chip) given
is_chip_defect chip None is = tt
is_chip_defect chip (Some given) is = is.0

-- the flat network that the words ask for
pub is_flat : (chip : LinkedChip) (instance defect : List ℕ) (given : Option ChipDefect) (net : Circuit)
    → IsAskedDefect chip instance defect given → net ≡ flat (core_of chip) given
    → IsFlatOf instance defect chip net
is_flat chip instance defect given net asked is = record { given = given; asked = asked; is = is }

-- its devices have lines
pub has_lines : (chip : LinkedChip) (given : Option ChipDefect) (net : Circuit) → FlatHasLines
    → IsWired chip → net ≡ flat (core_of chip) given → All HasLine net.devices
has_lines chip given net law wired is = rw is (law chip given wired)

-- the values that the words ask for
pub are_ends : (chip : LinkedChip) (instance defect first last : List ℕ) (given : Option ChipDefect)
    (first_letters last_letters : List ℕ) (good faulty : List Trit) → first_letters ≡ letters_of first
    → last_letters ≡ letters_of last → FitsInputs chip first → FitsInputs chip last
    → IsAskedDefect chip instance defect given
    → AreSimulated (core_of chip) given (pair_of first_letters last_letters) good faulty
    → AreEndsOf instance defect first last chip good faulty
are_ends chip instance defect first last given first_letters last_letters good faulty first_are last_are first_fits last_fits asked simulated =
    record {
      first_fits = first_fits;
      last_fits = last_fits;
      given = given;
      asked = asked;
      ends = rw (first_are, last_are) at simulated;
    }
