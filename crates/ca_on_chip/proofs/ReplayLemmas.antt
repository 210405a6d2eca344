-- What `replay` asks for, from what its stages find.
use Rattle.std.proofs.Common.{ℕ, ◌≡◌, inl, inr, refl, List, Option}
use Rattle.ca_store.specs.Store.{Files}
use Rattle.ca_store.specs.ReadFault.{IsWhole}
use Rattle.ca_net.specs.declared.trit.Trit.{Trit}
use Rattle.ca_flat.specs.declared.chip_defect.ChipDefect.{ChipDefect}
use Rattle.ca_linked.specs.Linked.{LinkedChip}
use Rattle.ca_view.specs.Core.{core_of}
use Rattle.ca_fault.specs.declared.fault.Fault.{Fault}
use Rattle.ca_fault.specs.declared.fault.Fault.TheVariants.{Order}
use Rattle.ca_load.specs.Texts.{InputFiles}
use Rattle.ca_load.specs.Files.{OfFile, IsReadCause}
use Rattle.ca_request.specs.Vectors.{letters_of}
use Rattle.ca_request.specs.Asked.{FitsInputs, IsAskedDefect, IsDefectStage, IsVectorsStage}
use Rattle.ca_simulate.specs.Simulated.{pair_of}
use Rattle.ca_simulate.specs.OneRun.{AreRunEnds, IsFaultyLine}
use Rattle.ca_on_chip.specs.declared.replays.TheConstants.{MAX_ORDER}
use Rattle.ca_on_chip.specs.OnChip.{IsTracedChipOf, IsSimulationCause}
use Rattle.ca_on_chip.specs.Replay.{run_of, IsAskedRun, AreRunEndsOf, HasFaultyLine, HasRun}
use Rattle.ca_on_chip.specs.code.Replay.{IsOrderStage}
use Rattle.ca_on_chip.specs.Replay.{IsOrderCause, IsRunCause}
use Rattle.ca_on_chip.specs.code.Replay.{IsRunStage}
use Rattle.ca_load.proofs.ReadLemmas.{of_whole}
use Rattle.ca_on_chip.proofs.AskedLemmas.{of_chip, own_word}

-- vectors that aren't of the chip
pub at_vectors : (chip : LinkedChip) (instance defect first last order : List ℕ) (files : Option Files) (before after : ℕ) (fault : Fault)
    → IsVectorsStage chip first last fault → IsRunStage instance defect first last order chip files before after fault
at_vectors chip instance defect first last order files before after fault (inl memory) = inl (inl memory)
at_vectors chip instance defect first last order files before after fault (inr cause) = inl (inr (inl cause))

-- vectors that are, and a defect that isn't
pub at_defect : (chip : LinkedChip) (instance defect first last order : List ℕ) (files : Option Files) (before after : ℕ) (fault : Fault)
    → FitsInputs chip first → FitsInputs chip last → IsDefectStage chip instance defect fault
    → IsRunStage instance defect first last order chip files before after fault
at_defect chip instance defect first last order files before after fault first_fits last_fits (inl memory) = inl (inl memory)
at_defect chip instance defect first last order files before after fault first_fits last_fits (inr cause) =
    inl (inr (inr (first_fits, (last_fits, cause))))

-- the run that the words name
asked_run : (chip : LinkedChip) (instance defect first last : List ℕ) (given : Option ChipDefect) → FitsInputs chip first
    → FitsInputs chip last → IsAskedDefect chip instance defect given
    → IsAskedRun instance defect first last chip (run_of chip given first last)
asked_run chip instance defect first last given first_fits last_fits asked = record {
  first_fits = first_fits;
  last_fits = last_fits;
  given = given;
  asked = asked;
  run_is = refl;
}

module _ (chip : LinkedChip) (instance defect first last order : List ℕ) (files : Option Files) (given : Option ChipDefect)
    (first_fits : FitsInputs chip first) (last_fits : FitsInputs chip last) (asked : IsAskedDefect chip instance defect given) where
  -- a file that could not be read
  pub at_file : (before after : ℕ) (fault : Fault) → IsReadCause order files MAX_ORDER before after fault
      → IsRunStage instance defect first last order chip files before after fault
  at_file before after fault cause = inr (at_read fault cause)
    where
      run : HasRun instance defect first last chip
      run = (run_of chip given first last, asked_run chip instance defect first last given first_fits last_fits asked)

      at_read : (fault : Fault) → IsReadCause order files MAX_ORDER before after fault
          → IsOrderStage instance defect first last order chip files before after fault
      at_read (Order line) cause = absurd cause
      at_read fault cause = (run, cause)

  module _ (bytes first_letters last_letters : List ℕ) (first_are : first_letters ≡ letters_of first)
      (last_are : last_letters ≡ letters_of last) (whole : IsWhole files order MAX_ORDER bytes) where
    -- what the run that the bytes name ends with
    pub are_ends : (values : List Trit)
        → AreRunEnds (record { chip = core_of chip; given = given; pair = pair_of first_letters last_letters }) bytes values
        → OfFile files order MAX_ORDER (AreRunEndsOf instance defect first last chip values)
    are_ends values ends = of_whole files order bytes MAX_ORDER (AreRunEndsOf instance defect first last chip values) whole (record {
      run = run_of chip given first last;
      asked = asked_run chip instance defect first last given first_fits last_fits asked;
      ends = rw (first_are, last_are) at ends;
    })

    -- the first line of the bytes that names no event
    pub at_line : (before after line : ℕ)
        → IsFaultyLine (record { chip = core_of chip; given = given; pair = pair_of first_letters last_letters }) line bytes
        → IsRunStage instance defect first last order chip files before after (Order line)
    at_line before after line faulty = inr (of_whole files order bytes MAX_ORDER (HasFaultyLine instance defect first last line chip) whole (record {
      run = run_of chip given first last;
      asked = asked_run chip instance defect first last given first_fits last_fits asked;
      faulty = rw (first_are, last_are) at faulty;
    }))

-- why a chip of the files has no such run
pub at_run : (names : InputFiles) (files mid : Option Files) (before between after : ℕ) (chip : LinkedChip)
    (instance defect first last order : List ℕ) (fault : Fault) → mid ≡ files → between ≡ before → IsTracedChipOf files names chip
    → IsRunStage instance defect first last order chip mid between after fault
    → IsRunCause names instance defect first last order files before after fault
at_run names files mid before between after chip instance defect first last order fault kept quiet held cause =
    by fault (rw (kept, quiet) at cause)
  where
    by : (fault : Fault) → IsRunStage instance defect first last order chip files before after fault
        → IsRunCause names instance defect first last order files before after fault
    by fault (inl (inl memory)) = inl (inl (inl (inl memory)))
    by fault (inl (inr cause)) = inr (inl (
      own_word instance defect first last fault chip cause,
      of_chip files names chip (IsSimulationCause instance defect first last fault) held cause,
    ))
    by fault (inr cause) = inr (inr (at_order fault cause))
      where
        at_order : (fault : Fault) → IsOrderStage instance defect first last order chip files before after fault
            → IsOrderCause names instance defect first last order files before after fault
        at_order (Order line) cause =
            of_chip files names chip (λ chip. OfFile files order MAX_ORDER (HasFaultyLine instance defect first last line chip)) held cause
        at_order fault cause = (of_chip files names chip (HasRun instance defect first last) held cause.0, cause.1)
