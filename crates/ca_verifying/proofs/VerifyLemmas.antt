-- What `verify` finds, and why it finds nothing, from what its stages find.
use Rattle.std.proofs.Common.{ℕ, ◌≡◌, ◌≢◌, ◌+◌, ◌*◌, inl, inr, Bool, List, length, Option, subst, sym, arith}
use Rattle.std.specs.List.{All}
use Rattle.std.proofs.lemmas.List.{length-map}
use Rattle.std.proofs.lemmas.List.Elements.{All-weaker}
use Rattle.ca_store.specs.Store.{Files}
use Rattle.ca_store.specs.ReadFault.{IsWhole}
use Rattle.ca_linked.specs.Linked.{LinkedChip, inputs_of}
use Rattle.ca_view.specs.Core.{core_of, core_net}
use Rattle.ca_flat.specs.Pair.{bit_count}
use Rattle.ca_scan.specs.ChainFault.{AreAllChains}
use Rattle.ca_chip_stil.specs.ChipStil.{AreOfChip}
use Rattle.ca_expected.specs.Expected.{AreExpected}
use Rattle.ca_claim.specs.declared.certificate.Certificate.{Certificate}
use Rattle.ca_claim.specs.declared.certificate.Answer.{Answer}
use Rattle.ca_claim.specs.Stands.{IsAnswer}
use Rattle.ca_claim.specs.Laws.{IsYesTrue}
use Rattle.ca_chip_cert.specs.Listed.{listed_defects}
use Rattle.ca_stil_pairs.specs.declared.file.StilFile.{StilFile}
use Rattle.ca_fault.specs.declared.fault.Fault.{Fault}
use Rattle.ca_fault.specs.declared.fault.Fault.TheVariants.{CertChip, NoMemory}
use Rattle.ca_load.specs.Files.{OfFile, IsReadCause}
use Rattle.ca_load.specs.Texts.{InputFiles, OfInputs}
use Rattle.ca_load.specs.Chips.{IsChipOf}
use Rattle.ca_load.proofs.ReadLemmas.{of_whole, of_file_then}
use Rattle.ca_patterns.specs.declared.patterns.TheConstants.{MAX_STIL}
use Rattle.ca_patterns.specs.Patterns.{IsPatternsOf, AreFew, IsLoadedCause}
use Rattle.ca_patterns.specs.Right.{HasRight}
use Rattle.ca_patterns.proofs.PatternLemmas.{of_traced, at_wrong}
use Rattle.ca_verifying.specs.declared.certificates.TheConstants.{MAX_CERT}
use Rattle.ca_verifying.specs.Verifying.{IsCertificateIn, HasOneEach, IsAnswerByFiles, IsBadCert, IsVerifiedCause}
use Rattle.ca_verifying.specs.code.Stages.{IsCountStage, IsCertTextStage, IsCertStage, IsJudgedStage}

module _ (chip : LinkedChip) (name : List ℕ) (files : Option Files) (before after : ℕ) (fault : Fault) where
  -- a file that wasn't read
  pub at_file : IsReadCause name files MAX_CERT before after fault → IsCertStage chip name files before after fault
  at_file cause = inl cause

  -- a text that is no certificate
  pub at_text : (bytes : List ℕ) → IsWhole files name MAX_CERT bytes → IsCertTextStage chip bytes fault
      → IsCertStage chip name files before after fault
  at_text bytes whole (inl memory) = rw memory (inl tt)
  at_text bytes whole (inr (is, cause)) =
      inr (is, of_whole files name bytes MAX_CERT (IsBadCert chip fault) whole cause)

-- a certificate with more or fewer claims than the chip has defects
pub at_count : (chip : LinkedChip) (bytes : List ℕ) (certificate : Certificate) (fault : Fault)
    → IsCertificateIn certificate bytes → IsCountStage chip certificate fault → IsCertTextStage chip bytes fault
at_count chip bytes certificate (CertChip claims) is (counted, other) =
    inr (tt, record { certificate = certificate; is = is; counted = counted; other = other })
at_count chip bytes certificate fault is stage = inl stage

-- the pairs of a chip have all pattern bits of its core
pub core_bits : (chip : LinkedChip) (chains : List (List ℕ)) (file : StilFile) → AreOfChip chip chains file.pairs file.expected
    → All (λ bits. length bits ≡ bit_count (core_of chip)) file.pairs
core_bits chip chains file of = All-weaker
    (λ (pair : List Bool). length pair ≡ length (inputs_of chip) + length (inputs_of chip))
    (λ (pair : List Bool). length pair ≡ bit_count (core_of chip))
    (λ pair is. let l = length-map (inputs_of chip) (core_net chip) in omega (arith, l, is)) file.pairs of.bits

-- no chip with patterns
pub at_loaded : (names : InputFiles) (stil cert : List ℕ) (files : Option Files) (before after : ℕ) (fault : Fault)
    → IsLoadedCause names stil files before after fault → IsVerifiedCause names stil cert files before after fault
at_loaded names stil cert files before after fault cause = inl cause

-- no memory
pub no_memory : (names : InputFiles) (stil cert : List ℕ) (files : Option Files) (before after : ℕ) (fault : Fault)
    → fault ≡ NoMemory → IsVerifiedCause names stil cert files before after fault
no_memory names stil cert files before after fault memory =
    inl (inl (inl (inl (inl memory))))

-- patterns of the chip of the files that are wrong, or have no certificate
pub at_claimed : (files mid : Option Files) (names : InputFiles) (stil cert : List ℕ) (before between after : ℕ) (chip : LinkedChip)
    (chains : List (List ℕ)) (file : StilFile) (fault : Fault) → mid ≡ files → between ≡ before
    → OfInputs files names (λ inputs. IsChipOf inputs chip) → AreAllChains chip chains
    → OfFile files stil MAX_STIL (IsPatternsOf chip chains file) → AreFew file
    → IsJudgedStage chip file cert mid between after fault → IsVerifiedCause names stil cert files before after fault
at_claimed files mid names stil cert before between after chip chains file fault kept quiet held all patterns few stage = by
    (subst (λ (known : Option Files). IsJudgedStage chip file cert known before after fault) kept
    (subst (λ (count : ℕ). IsJudgedStage chip file cert mid count after fault) quiet stage))
  where
    right_file : (Holds : StilFile → Type 0) → AreExpected (core_of chip) file.pairs file.expected → Holds file
        → OfFile files stil MAX_STIL (HasRight chip chains Holds)
    right_file Holds right holds = of_file_then files stil MAX_STIL (IsPatternsOf chip chains file) (HasRight chip chains Holds)
        (λ bytes is. record { file = file; is = is; few = few; right = right; holds = holds }) patterns

    by : IsJudgedStage chip file cert files before after fault → IsVerifiedCause names stil cert files before after fault
    by (inl wrong) = inl (at_wrong files names stil before after chip chains file fault held all patterns few wrong)
    by (inr (right, inl unread)) = inr (inl (
      of_traced files names chip chains
          (λ chip chains. OfFile files stil MAX_STIL (HasRight chip chains (λ file. Unit {0}))) held all
          (right_file (λ file. Unit {0}) right tt),
      unread,
    ))
    by (inr (right, inr (is, bad))) = inr (inr (
      is,
      of_traced files names chip chains
          (λ chip chains. OfFile files stil MAX_STIL
          (HasRight chip chains (λ file. OfFile files cert MAX_CERT (IsBadCert chip fault)))) held all
          (right_file (λ file. OfFile files cert MAX_CERT (IsBadCert chip fault)) right bad),
    ))

-- the answer for the chip of the files
pub is_answer : (files : Option Files) (stil cert : List ℕ) (chip : LinkedChip) (chains : List (List ℕ)) (file : StilFile)
    (certificate : Certificate) (answer : Answer) → OfFile files stil MAX_STIL (IsPatternsOf chip chains file) → AreFew file
    → AreExpected (core_of chip) file.pairs file.expected → OfFile files cert MAX_CERT (IsCertificateIn certificate)
    → HasOneEach chip certificate
    → IsAnswer (core_of chip) (listed_defects chip) file.pairs certificate.budget certificate.claims answer
    → IsYesTrue (core_of chip) (listed_defects chip) file.pairs certificate.budget certificate.claims answer
    → IsAnswerByFiles files stil cert chip chains file.pairs certificate answer
is_answer files stil cert chip chains file certificate answer patterns few right of_cert one_each is proves = record {
  expected = file.expected;
  one_each = one_each;
  answer_is = is;
  proves = proves;
  few = few;
  right = right;
  of_stil = patterns;
  of_cert = of_cert;
}
