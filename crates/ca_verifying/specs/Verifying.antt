-- What `verify` finds of a chip, and why it finds nothing.
use Rattle.std.specs.Prelude.{◌≡◌, ◌≢◌, ◌≤◌, ◌⊎◌, ℕ, Bool, List, ◌++◌, length, codes, decimal, Option, ⊤}
use Rattle.ca_store.specs.Store.{Files}
use Rattle.ca_net.specs.declared.trit.Trit.{Trit}
use Rattle.ca_linked.specs.Linked.{LinkedChip}
use Rattle.ca_view.specs.Core.{core_of}
use Rattle.ca_credit.specs.declared.limit.TheConstants.{MOST_PAIRS}
use Rattle.ca_expected.specs.Expected.{AreExpected}
use Rattle.ca_claim.specs.declared.certificate.Certificate.{Certificate}
use Rattle.ca_claim.specs.declared.certificate.Answer.{Answer}
use Rattle.ca_claim.specs.declared.certificate.Answer.TheVariants.{Yes, No}
use Rattle.ca_claim.specs.Stands.{IsAnswer}
use Rattle.ca_claim.specs.Laws.{IsYesTrue}
use Rattle.ca_cert_text.specs.CertFault.{IsTextOf, IsFirstFaulty}
use Rattle.ca_chip_cert.specs.Listed.{listed_defects}
use Rattle.ca_fault.specs.declared.fault.Fault.{Fault}
use Rattle.ca_fault.specs.declared.fault.Fault.TheVariants.{Cert, CertChip}
use Rattle.ca_load.specs.Files.{IsFileWith, OfFile, IsReadCause}
use Rattle.ca_load.specs.Texts.{InputFiles}
use Rattle.ca_patterns.specs.declared.patterns.TheConstants.{MAX_STIL}
use Rattle.ca_patterns.specs.Patterns.{IsPatternsOf, AreFew, IsPatternsCause, IsLoadedCause}
use Rattle.ca_patterns.specs.Right.{OfRight}
use Rattle.ca_stil_pairs.specs.declared.file.StilFile.{StilFile}
use Rattle.ca_verifying.specs.declared.certificates.TheConstants.{MAX_CERT}

-- the text is this certificate
abbrev pub IsCertificateIn : Certificate → List ℕ → Type 0
IsCertificateIn certificate bytes = IsTextOf bytes certificate

-- the certificate has a claim for each defect of the chip
abbrev pub HasOneEach : LinkedChip → Certificate → Type 0
HasOneEach chip certificate = length certificate.claims ≡ length (listed_defects chip)

-- the line that tells the answer
abbrev pub answer_line : Answer → List ℕ
answer_line Yes = codes "yes\n"
answer_line (No defect) = codes "no " ++ (decimal defect ++ codes "\n")

-- The answer is yes exactly where every claim of the certificate stands for the pairs, and else no with the
-- first defect whose claim doesn't; where it is yes, each claim says what is so. There are no more pairs than
-- may be listed, and each expected value is what the good chip ends with. Where the files are known, the
-- pairs and these values are those of the file of patterns, and the certificate is that of its file.
pub record IsAnswerByFiles (files : Option Files) (stil cert : List ℕ) (chip : LinkedChip)
    (chains : List (List ℕ)) (pairs : List (List Bool)) (certificate : Certificate) (answer : Answer) : Type 0
  where
    pub expected : List (List Trit)
    pub one_each : HasOneEach chip certificate
    pub answer_is : IsAnswer (core_of chip) (listed_defects chip) pairs certificate.budget certificate.claims
        answer
    pub proves : IsYesTrue (core_of chip) (listed_defects chip) pairs certificate.budget certificate.claims
        answer
    pub few : length pairs ≤ MOST_PAIRS
    pub right : AreExpected (core_of chip) pairs expected
    pub of_stil : OfFile files stil MAX_STIL
        (IsPatternsOf chip chains (record { pairs = pairs; expected = expected }))
    pub of_cert : OfFile files cert MAX_CERT (IsCertificateIn certificate)

-- the text is a certificate with this many claims, which are more or fewer than the chip's defects
pub record HasOtherCount (chip : LinkedChip) (claims : ℕ) (bytes : List ℕ) : Type 0 where
  pub certificate : Certificate
  pub is : IsCertificateIn certificate bytes
  pub counted : claims ≡ length certificate.claims
  pub other : claims ≢ length (listed_defects chip)

-- why a text is no certificate of the chip: its first line that isn't of the form, or else the number of its
-- claims
abbrev pub IsBadCert : LinkedChip → Fault → List ℕ → Type 0
IsBadCert chip (Cert line) bytes = IsFirstFaulty bytes line
IsBadCert chip (CertChip claims) bytes = HasOtherCount chip claims bytes
IsBadCert chip _ bytes = ⊥

-- the fault is one of a certificate
abbrev pub IsCertFault : Fault → Type 0
IsCertFault (Cert line) = ⊤
IsCertFault (CertChip claims) = ⊤
IsCertFault _ = ⊥

-- why the file of the certificate was not read, after right patterns of the chip of the files
abbrev pub IsUnreadCertCause : InputFiles → List ℕ → List ℕ → Option Files → ℕ → ℕ → Fault → Type 0
IsUnreadCertCause names stil cert files before after fault =
    OfRight files names stil (λ chip file. ⊤) × IsReadCause cert files MAX_CERT before after fault

-- why it is no certificate of the chip of the files, after right patterns of it
abbrev pub IsBadCertCause : InputFiles → List ℕ → List ℕ → Option Files → Fault → Type 0
IsBadCertCause names stil cert files fault = IsCertFault fault
    × OfRight files names stil (λ chip file. OfFile files cert MAX_CERT (IsBadCert chip fault))

-- why there is no certificate, after right patterns of the chip of the files
abbrev pub IsCertCause : InputFiles → List ℕ → List ℕ → Option Files → ℕ → ℕ → Fault → Type 0
IsCertCause names stil cert files before after fault =
    IsUnreadCertCause names stil cert files before after fault ⊎ IsBadCertCause names stil cert files fault

-- why the chip of the files has no patterns, or wrong ones, or there is no certificate: the patterns come
-- first
abbrev pub IsVerifyCause : InputFiles → List ℕ → List ℕ → Option Files → ℕ → ℕ → Fault → Type 0
IsVerifyCause names stil cert files before after fault =
    IsPatternsCause names stil files before after fault ⊎ IsCertCause names stil cert files before after fault

-- why there is no answer: the chip comes first, then its patterns, then the certificate
abbrev pub IsVerifiedCause : InputFiles → List ℕ → List ℕ → Option Files → ℕ → ℕ → Fault → Type 0
IsVerifiedCause names stil cert files before after fault =
    IsLoadedCause names stil files before after fault ⊎ IsCertCause names stil cert files before after fault

-- the file of this name has right patterns of the chip with these chains, and the other a certificate of it
pub record FitsVerification (reported : Files) (stil cert : List ℕ) (chip : LinkedChip)
    (chains : List (List ℕ)) : Type 0 where
  pub file : StilFile
  pub few : AreFew file
  pub right : AreExpected (core_of chip) file.pairs file.expected
  pub there : IsFileWith reported stil MAX_STIL (IsPatternsOf chip chains file)
  pub certificate : Certificate
  pub one_each : HasOneEach chip certificate
  pub cert_there : IsFileWith reported cert MAX_CERT (IsCertificateIn certificate)
