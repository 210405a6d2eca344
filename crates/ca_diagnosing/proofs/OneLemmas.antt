-- A file that is a log has no cause, and one that is none has one.
use Rattle.std.proofs.Common.{ℕ, ◌≡◌, ◌≤◌, ◌∙◌, refl, sym, subst, List, length, Option, Some, None}
use Rattle.std.specs.Prelude.{IsSomeAnd}
use Rattle.ca_store.specs.Store.{Files}
use Rattle.ca_net.specs.declared.trit.Trit.{Trit}
use Rattle.ca_linked.specs.Linked.{LinkedChip}
use Rattle.ca_scan.specs.ChainFault.{AreAllChains}
use Rattle.ca_log.specs.declared.record.LogRecord.{LogRecord}
use Rattle.ca_fault.specs.declared.fault.Fault.{Fault}
use Rattle.ca_fault.specs.declared.fault.Fault.TheVariants.{Log}
use Rattle.ca_load.specs.Files.{OfFile, IsReadCause}
use Rattle.ca_load.proofs.WholeLemmas.{IsOutsideFault, at_read}
use Rattle.ca_patterns.specs.declared.patterns.TheConstants.{MAX_STIL}
use Rattle.ca_patterns.specs.Patterns.{IsPatternsOf, FitsPatterns}
use Rattle.ca_patterns.proofs.OneLemmas.{same_file}
use Rattle.ca_diagnosing.specs.declared.logs.TheConstants.{MAX_LOG}
use Rattle.ca_diagnosing.specs.Diagnosing.{IsLogIn, IsBadLog, HasRight, FitsDiagnosis}

-- a text that is a log isn't bad
pub no_bad : (chip : LinkedChip) (expected : List (List Trit)) (logged : List LogRecord) (bytes : List ℕ) (fault : Fault)
    → IsLogIn chip expected logged bytes → IsBadLog chip expected fault bytes → ⊥
no_bad chip expected logged bytes (Log row) is bad = let both = sym is ∙ bad in cc
no_bad chip expected logged bytes fault is bad = bad

-- a text has one bad record that is the first
pub one_bad : (chip : LinkedChip) (expected : List (List Trit)) (bytes : List ℕ) (fault other : Fault)
    → IsBadLog chip expected fault bytes → IsBadLog chip expected other bytes → fault ≡ other
one_bad chip expected bytes (Log row) (Log also) here there = let both = sym here ∙ there in cc
one_bad chip expected bytes (Log row) other here there = absurd there
one_bad chip expected bytes fault other here there = absurd here

module _ (files : Option Files) (reported : Files) (are : files ≡ Some reported) (stil log : List ℕ) (chip : LinkedChip)
    (chains : List (List ℕ)) (all : AreAllChains chip chains) (fits : FitsDiagnosis reported stil log chip chains) where
  -- the patterns are right
  pub fits_patterns : FitsPatterns reported stil chip chains
  fits_patterns = record { file = fits.file; few = fits.few; right = fits.right; there = fits.there }

  -- the log is read
  pub is_log_read : (before after : ℕ) (fault : Fault) → IsReadCause log files MAX_LOG before after fault
      → IsOutsideFault fault before after
  is_log_read before after fault cause = by (reported log) refl fits.log_there
    where
      by : (there : Option (List ℕ)) → reported log ≡ there
          → IsSomeAnd there (λ bytes. (length bytes ≤ MAX_LOG) × IsLogIn chip fits.file.expected fits.logged bytes) → IsOutsideFault fault before after
      by None is missing = absurd missing
      by (Some bytes) is (within, held) = at_read files reported are before after log bytes MAX_LOG is within fault cause

  -- it has no bad record
  no_bad_file : (fault : Fault) → OfFile files log MAX_LOG (IsBadLog chip fits.file.expected fault) → ⊥
  no_bad_file fault held = by (reported log) fits.log_there (held reported are)
    where
      by : (there : Option (List ℕ)) → IsSomeAnd there (λ bytes. (length bytes ≤ MAX_LOG) × IsLogIn chip fits.file.expected fits.logged bytes)
          → IsSomeAnd there (λ bytes. (length bytes ≤ MAX_LOG) × IsBadLog chip fits.file.expected fault bytes) → ⊥
      by None is cause = cause
      by (Some bytes) (within, is) (also, cause) = no_bad chip fits.file.expected fits.logged bytes fault is cause

  -- whatever right patterns its values are of
  pub no_bad_log : (fault : Fault)
      → OfFile files stil MAX_STIL (HasRight chip chains (λ file. OfFile files log MAX_LOG (IsBadLog chip file.expected fault))) → ⊥
  no_bad_log fault held = by (reported stil) fits.there (held reported are)
    where
      by : (there : Option (List ℕ)) → IsSomeAnd there (λ bytes. (length bytes ≤ MAX_STIL) × IsPatternsOf chip chains fits.file bytes)
          → IsSomeAnd there (λ bytes. (length bytes ≤ MAX_STIL)
          × HasRight chip chains (λ file. OfFile files log MAX_LOG (IsBadLog chip file.expected fault)) bytes) → ⊥
      by None is cause = cause
      by (Some bytes) (within, is) (also, cause) =
          let same = same_file chip chains all bytes cause.file fits.file cause.is is in
          no_bad_file fault (subst (λ (expected : List (List Trit)). OfFile files log MAX_LOG (IsBadLog chip expected fault)) same.expected_are cause.holds)
