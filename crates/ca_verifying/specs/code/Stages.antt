-- Why a stage fails, over what it was handed: a chip with right patterns, and a text or a file.
use Rattle.std.specs.Prelude.{◌≡◌, ◌≢◌, ◌⊎◌, ℕ, List, length, Option}
use Rattle.ca_store.specs.Store.{Files}
use Rattle.ca_linked.specs.Linked.{LinkedChip}
use Rattle.ca_view.specs.Core.{core_of}
use Rattle.ca_expected.specs.Expected.{AreExpected}
use Rattle.ca_claim.specs.declared.certificate.Certificate.{Certificate}
use Rattle.ca_chip_cert.specs.Listed.{listed_defects}
use Rattle.ca_stil_pairs.specs.declared.file.StilFile.{StilFile}
use Rattle.ca_fault.specs.declared.fault.Fault.{Fault}
use Rattle.ca_fault.specs.declared.fault.Fault.TheVariants.{CertChip, NoMemory}
use Rattle.ca_load.specs.Files.{OfFile, IsReadCause}
use Rattle.ca_patterns.specs.code.Stages.{IsValueStage}
use Rattle.ca_verifying.specs.declared.certificates.TheConstants.{MAX_CERT}
use Rattle.ca_verifying.specs.Verifying.{IsBadCert, IsCertFault}

-- why a certificate isn't one of the chip: it has this many claims, more or fewer than the chip has defects
abbrev pub IsCountStage : LinkedChip → Certificate → Fault → Type 0
IsCountStage chip certificate (CertChip claims) =
    (claims ≡ length certificate.claims) × (claims ≢ length (listed_defects chip))
IsCountStage chip certificate fault = fault ≡ NoMemory

-- why a text is no certificate of the chip
abbrev pub IsCertTextStage : LinkedChip → List ℕ → Fault → Type 0
IsCertTextStage chip bytes fault =
    (fault ≡ NoMemory) ⊎ (IsCertFault fault × IsBadCert chip fault bytes)

-- why a file has none
abbrev pub IsCertStage : LinkedChip → List ℕ → Option Files → ℕ → ℕ → Fault → Type 0
IsCertStage chip name files before after fault =
    IsReadCause name files MAX_CERT before after fault
    ⊎ (IsCertFault fault × OfFile files name MAX_CERT (IsBadCert chip fault))

-- why patterns are wrong, or are right and have no certificate
abbrev pub IsJudgedStage : LinkedChip → StilFile → List ℕ → Option Files → ℕ → ℕ → Fault → Type 0
IsJudgedStage chip file name files before after fault =
    IsValueStage chip file fault
    ⊎ (AreExpected (core_of chip) file.pairs file.expected
    × IsCertStage chip name files before after fault)
