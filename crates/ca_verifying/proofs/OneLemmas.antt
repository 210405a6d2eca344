-- A file that is a certificate of the chip has no cause, and one that is none has one.
use Rattle.std.proofs.Common.{ℕ, ◌≡◌, ◌≤◌, ◌⊎◌, ◌∙◌, inl, inr, refl, sym, ap, subst, List, length, Option, Some, None}
use Rattle.std.specs.Prelude.{IsSomeAnd, Result, Ok, Err}
use Rattle.ca_store.specs.Store.{Files}
use Rattle.ca_linked.specs.Linked.{LinkedChip}
use Rattle.ca_scan.specs.ChainFault.{AreAllChains}
use Rattle.ca_claim.specs.declared.certificate.Certificate.{Certificate}
use Rattle.ca_cert_text.specs.declared.fault.CertFault.{CertFault}
use Rattle.ca_cert_text.specs.declared.fault.CertFault.TheVariants as cert
use Rattle.ca_cert_text.specs.CertText.{certificate_text}
use Rattle.ca_cert_text.specs.CertFault.{IsTextOf, IsFirstFaulty, Reads}
use Rattle.ca_cert_text.proofs.SameLemmas.{text_is_read_lem, faulty_line_is_one_lem}
use Rattle.ca_fault.specs.declared.fault.Fault.{Fault}
use Rattle.ca_fault.specs.declared.fault.Fault.TheVariants.{Cert, CertChip}
use Rattle.ca_load.specs.Files.{OfFile, IsReadCause}
use Rattle.ca_load.proofs.WholeLemmas.{IsOutsideFault, at_read}
use Rattle.ca_patterns.specs.declared.patterns.TheConstants.{MAX_STIL}
use Rattle.ca_patterns.specs.Patterns.{IsPatternsOf, FitsPatterns}
use Rattle.ca_patterns.specs.Right.{HasRight}
use Rattle.ca_verifying.specs.declared.certificates.TheConstants.{MAX_CERT}
use Rattle.ca_verifying.specs.Verifying.{IsCertificateIn, HasOneEach, IsBadCert, FitsVerification}

-- what else a text that is a certificate may read as
reads_again : (bytes : List ℕ) (certificate : Certificate) (answer : Result Certificate CertFault) → IsTextOf bytes certificate
    → Reads bytes answer → (answer ≡ Ok certificate) ⊎ (answer ≡ Err cert.NoMemory)
reads_again bytes certificate answer is reads =
    text_is_read_lem certificate answer is.writable (subst (λ (text : List ℕ). Reads text answer) is.is reads)

-- it has no faulty line
no_faulty : (bytes : List ℕ) (certificate : Certificate) (line : ℕ) → IsTextOf bytes certificate → IsFirstFaulty bytes line → ⊥
no_faulty bytes certificate line is faulty = elim (reads_again bytes certificate (Err (cert.At line)) is faulty) [
  | inl e ↦ let same : ◌≡◌ {A = Result Certificate CertFault} (Err (cert.At line)) (Ok certificate) = e in cc
  | inr e ↦ let same : ◌≡◌ {A = Result Certificate CertFault} (Err (cert.At line)) (Err cert.NoMemory) = e in cc
]

-- and is no other certificate
one_certificate : (bytes : List ℕ) (one other : Certificate) → IsTextOf bytes one → IsTextOf bytes other → other ≡ one
one_certificate bytes one other here there = elim (reads_again bytes one (Ok other) here there) [
  | inl e ↦ let same : ◌≡◌ {A = Result Certificate CertFault} (Ok other) (Ok one) = e in cc
  | inr e ↦ let same : ◌≡◌ {A = Result Certificate CertFault} (Ok other) (Err cert.NoMemory) = e in cc
]

-- a text that is a certificate of the chip isn't bad
pub no_bad : (chip : LinkedChip) (certificate : Certificate) (bytes : List ℕ) (fault : Fault) → HasOneEach chip certificate
    → IsCertificateIn certificate bytes → IsBadCert chip fault bytes → ⊥
no_bad chip certificate bytes (Cert line) one_each is bad = no_faulty bytes certificate line is bad
no_bad chip certificate bytes (CertChip claims) one_each is bad =
    let same = one_certificate bytes certificate bad.certificate is bad.is in
    bad.other (bad.counted ∙ ap (λ (c : Certificate). length c.claims) same ∙ one_each)
no_bad chip certificate bytes fault one_each is bad = bad

-- a text is bad for one reason
pub one_bad : (chip : LinkedChip) (bytes : List ℕ) (fault other : Fault)
    → IsBadCert chip fault bytes → IsBadCert chip other bytes → fault ≡ other
one_bad chip bytes (Cert line) (Cert also) here there = ap Cert (faulty_line_is_one_lem bytes line also here there)
one_bad chip bytes (Cert line) (CertChip claims) here there = absurd (no_faulty bytes there.certificate line there.is here)
one_bad chip bytes (CertChip claims) (Cert line) here there = absurd (no_faulty bytes here.certificate line here.is there)
one_bad chip bytes (CertChip claims) (CertChip also) here there =
    let same = one_certificate bytes here.certificate there.certificate here.is there.is in
    ap CertChip (here.counted ∙ ap (λ (c : Certificate). length c.claims) (sym same) ∙ sym there.counted)
one_bad chip bytes (Cert line) other here there = absurd there
one_bad chip bytes (CertChip claims) other here there = absurd there
one_bad chip bytes fault other here there = absurd here

module _ (files : Option Files) (reported : Files) (are : files ≡ Some reported) (stil cert : List ℕ) (chip : LinkedChip)
    (chains : List (List ℕ)) (all : AreAllChains chip chains) (fits : FitsVerification reported stil cert chip chains) where
  -- the patterns are right
  pub fits_patterns : FitsPatterns reported stil chip chains
  fits_patterns = record { file = fits.file; few = fits.few; right = fits.right; there = fits.there }

  -- the certificate is read
  pub is_cert_read : (before after : ℕ) (fault : Fault) → IsReadCause cert files MAX_CERT before after fault
      → IsOutsideFault fault before after
  is_cert_read before after fault cause = by (reported cert) refl fits.cert_there
    where
      by : (there : Option (List ℕ)) → reported cert ≡ there
          → IsSomeAnd there (λ bytes. (length bytes ≤ MAX_CERT) × IsCertificateIn fits.certificate bytes) → IsOutsideFault fault before after
      by None is missing = absurd missing
      by (Some bytes) is (within, held) = at_read files reported are before after cert bytes MAX_CERT is within fault cause

  -- it isn't bad
  no_bad_file : (fault : Fault) → OfFile files cert MAX_CERT (IsBadCert chip fault) → ⊥
  no_bad_file fault held = by (reported cert) fits.cert_there (held reported are)
    where
      by : (there : Option (List ℕ)) → IsSomeAnd there (λ bytes. (length bytes ≤ MAX_CERT) × IsCertificateIn fits.certificate bytes)
          → IsSomeAnd there (λ bytes. (length bytes ≤ MAX_CERT) × IsBadCert chip fault bytes) → ⊥
      by None is cause = cause
      by (Some bytes) (within, is) (also, cause) = no_bad chip fits.certificate bytes fault fits.one_each is cause

  -- whatever right patterns come before it
  pub no_bad_cert : (fault : Fault)
      → OfFile files stil MAX_STIL (HasRight chip chains (λ file. OfFile files cert MAX_CERT (IsBadCert chip fault))) → ⊥
  no_bad_cert fault held = by (reported stil) fits.there (held reported are)
    where
      by : (there : Option (List ℕ)) → IsSomeAnd there (λ bytes. (length bytes ≤ MAX_STIL) × IsPatternsOf chip chains fits.file bytes)
          → IsSomeAnd there (λ bytes. (length bytes ≤ MAX_STIL)
          × HasRight chip chains (λ file. OfFile files cert MAX_CERT (IsBadCert chip fault)) bytes) → ⊥
      by None is cause = cause
      by (Some bytes) (within, is) (also, cause) = no_bad_file fault cause.holds
