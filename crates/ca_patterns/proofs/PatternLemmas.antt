-- The causes of the stages of a command that reads patterns.
use Rattle.std.proofs.Common.{ℕ, ◌≡◌, ◌≤◌, ◌<◌, ◌^◌, ◌⊎◌, inl, inr, refl, sym, subst, List, length, Option, Some, None}
use Rattle.std.proofs.Common.{Bool, arith}
use Rattle.ca_store.specs.Store.{Files}
use Rattle.ca_store.specs.ReadFault.{IsWhole}
use Rattle.ca_net.specs.declared.trit.Trit.{Trit}
use Rattle.ca_linked.specs.Linked.{LinkedChip}
use Rattle.ca_view.specs.Core.{core_of}
use Rattle.ca_scan.specs.ChainFault.{AreAllChains}
use Rattle.ca_credit.specs.declared.limit.TheConstants.{MOST_PAIRS}
use Rattle.ca_grade.specs.declared.judged.GradeFault.{GradeFault}
use Rattle.ca_grade.specs.declared.judged.GradeFault.TheVariants as grade
use Rattle.ca_grade.specs.GradeFault.{IsCause}
use Rattle.ca_stil_pairs.specs.declared.file.StilFile.{StilFile}
use Rattle.ca_fault.specs.declared.fault.LimitKind.TheVariants as limit
use Rattle.ca_fault.specs.declared.fault.Fault.{Fault}
use Rattle.ca_fault.specs.declared.fault.Fault.TheVariants.{Limit, Expected, NoMemory}
use Rattle.ca_load.specs.Files.{OfFile, IsReadCause}
use Rattle.ca_load.specs.Texts.{InputFiles, Inputs, OfInputs}
use Rattle.ca_load.specs.Chips.{IsChipOf}
use Rattle.ca_load.proofs.ReadLemmas.{of_whole, of_file_then}
use Rattle.ca_patterns.specs.declared.patterns.TheConstants.{MAX_STIL}
use Rattle.ca_patterns.specs.Patterns.{IsPatternsOf, AreFew, IsStilFault, IsStilCause, OfTraced, GiveTraced}
use Rattle.ca_patterns.specs.Patterns.{IsLoadedCause, IsPatternsCause, fault_of_value, IsSmall}
use Rattle.ca_patterns.specs.Stages.{IsPatternsStage}
use Rattle.ca_patterns.specs.code.Stages.{IsValueStage}
use Rattle.ca_patterns.specs.code.Stages.{IsTextStage}

module _ (chip : LinkedChip) (chains : List (List ℕ)) (name : List ℕ) (files : Option Files) (before after : ℕ) (fault : Fault) where
  -- a file that wasn't read
  pub at_file : IsReadCause name files MAX_STIL before after fault → IsPatternsStage chip chains name files before after fault
  at_file cause = inl cause

  -- a text that has no patterns of the chip
  pub at_text : (bytes : List ℕ) → IsWhole files name MAX_STIL bytes → IsTextStage chip chains bytes fault
      → IsPatternsStage chip chains name files before after fault
  at_text bytes whole (inl memory) = rw memory (inl tt)
  at_text bytes whole (inr (is, cause)) =
      inr (is, of_whole files name bytes MAX_STIL (IsStilCause chip chains fault) whole cause)

-- too many pairs
pub at_count : (chip : LinkedChip) (chains : List (List ℕ)) (bytes : List ℕ) (file : StilFile) (fault : Fault)
    → IsPatternsOf chip chains file bytes → MOST_PAIRS < length file.pairs → fault ≡ Limit limit.Pairs (length file.pairs)
    → IsTextStage chip chains bytes fault
at_count chip chains bytes file fault is many same =
    inr (rw same (tt, record { file = file; is = is; counted = refl; many = many }))

-- what holds of the chip that was read, and of its chains
pub of_traced : (files : Option Files) (names : InputFiles) (chip : LinkedChip) (chains : List (List ℕ))
    (P : LinkedChip → List (List ℕ) → Type 0) → OfInputs files names (λ inputs. IsChipOf inputs chip)
    → AreAllChains chip chains → P chip chains → OfTraced files names P
of_traced files names chip chains P held all holds = λ reported is.
    let found = held reported is in
    (found.0, (found.1.0, record { chip = chip; chains = chains; is = found.1.1; all = all; holds = holds }))

-- no patterns of the chip of the files
pub at_loaded : (files mid : Option Files) (names : InputFiles) (stil : List ℕ) (before between after : ℕ) (chip : LinkedChip)
    (chains : List (List ℕ)) (fault : Fault) → mid ≡ files → between ≡ before
    → OfInputs files names (λ inputs. IsChipOf inputs chip) → AreAllChains chip chains
    → IsPatternsStage chip chains stil mid between after fault → IsLoadedCause names stil files before after fault
at_loaded files mid names stil before between after chip chains fault kept quiet held all stage = by
    (subst (λ (known : Option Files). IsPatternsStage chip chains stil known before after fault) kept
    (subst (λ (count : ℕ). IsPatternsStage chip chains stil mid count after fault) quiet stage))
  where
    by : IsPatternsStage chip chains stil files before after fault → IsLoadedCause names stil files before after fault
    by (inl unread) = inr (inl (of_traced files names chip chains _ held all tt, unread))
    by (inr (is, cause)) = inr (inr (
      is,
      of_traced files names chip chains
          (λ chip chains. OfFile files stil MAX_STIL (IsStilCause chip chains fault)) held all cause,
    ))

-- the number of a pair that is listed is one of 32 bits
pub is_small : (chip : LinkedChip) (file : StilFile) (fault : GradeFault) → AreFew file
    → IsCause (core_of chip) file.pairs file.expected fault → IsSmall fault
is_small chip file (grade.Expected wrong) few cause =
    let within = cause.within in
    omega (arith, within, few)
is_small chip file grade.NoMemory few cause = tt

-- a wrong value
pub at_value : (chip : LinkedChip) (file : StilFile) (given : GradeFault) (fault : Fault)
    → IsCause (core_of chip) file.pairs file.expected given → fault ≡ fault_of_value given
    → IsValueStage chip file fault
at_value chip file (grade.Expected wrong) fault cause same = rw same cause
at_value chip file grade.NoMemory fault cause same = rw same refl

-- a file with a wrong value is one of a cause
pub value_cause : (chip : LinkedChip) (chains : List (List ℕ)) (file : StilFile) (bytes : List ℕ) (fault : Fault)
    → AreFew file → IsPatternsOf chip chains file bytes → IsValueStage chip file fault → IsTextStage chip chains bytes fault
value_cause chip chains file bytes (Expected pair output) few is wrong =
    inr (tt, record { file = file; is = is; few = few; wrong = wrong })
value_cause chip chains file bytes fault few is stage = inl stage

-- patterns of the chip of the files with a wrong value
pub at_wrong : (files : Option Files) (names : InputFiles) (stil : List ℕ) (before after : ℕ) (chip : LinkedChip)
    (chains : List (List ℕ)) (file : StilFile) (fault : Fault) → OfInputs files names (λ inputs. IsChipOf inputs chip) → AreAllChains chip chains
    → OfFile files stil MAX_STIL (IsPatternsOf chip chains file) → AreFew file → IsValueStage chip file fault
    → IsLoadedCause names stil files before after fault
at_wrong files names stil before after chip chains file (Expected pair output) held all patterns few wrong =
    inr (inr (
      tt,
      of_traced files names chip chains
          (λ chip chains. OfFile files stil MAX_STIL (IsStilCause chip chains (Expected pair output))) held all
          (of_file_then files stil MAX_STIL (IsPatternsOf chip chains file) (IsStilCause chip chains (Expected pair output))
          (λ bytes is. record { file = file; is = is; few = few; wrong = wrong }) patterns),
    ))
at_wrong files names stil before after chip chains file fault held all patterns few memory =
    inl (inl (inl (inl memory)))
