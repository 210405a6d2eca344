-- Chips that are alike have the same defects, so that a certificate of one is one of the other; and what is
-- reported of the files of `verify` is one fault.
use Rattle.std.proofs.Common.{◌≡◌, ◌≤◌, ℕ, suc, ◌+◌, List, [], ◌∷◌, ◌++◌, ◌⊎◌, ◌∙◌, inl, inr, length, refl, sym, ap, ap₂, subst, arith}
use Rattle.std.specs.Prelude.{Option, Some, None, IsSomeAnd, slice_get}
use Rattle.ca_store.specs.Store.{Files}
use Rattle.ca_linked.specs.declared.parts.Body.{Body}
use Rattle.ca_linked.specs.declared.parts.Body.TheVariants.{Gate, Scan}
use Rattle.ca_linked.specs.declared.parts.Part.{Part}
use Rattle.ca_linked.specs.Linked.{LinkedChip}
use Rattle.ca_linked.specs.Instances.{gates_of, gates_from, if_gate}
use Rattle.ca_link_laws.specs.Alike.{AreBodiesAlike, AreAlike}
use Rattle.ca_link_laws.proofs.TraceLemmas.{one_trace}
use Rattle.ca_flat.specs.Chip as flat
use Rattle.ca_flat.specs.declared.chip_defect.ChipDefect.{ChipDefect}
use Rattle.ca_chip_defects.specs.ChipDefects.{chip_defects}
use Rattle.ca_chip_cert.specs.Listed.{listed_defects}
use Rattle.ca_claim.specs.declared.certificate.Certificate.{Certificate}
use Rattle.ca_scan.specs.ChainFault.{AreAllChains}
use Rattle.ca_scan.proofs.AnswerLemmas.{one_answer}
use Rattle.ca_expected.specs.Expected.{AreExpected}
use Rattle.ca_stil.specs.declared.chip.StilChip.{StilChip}
use Rattle.ca_stil_pairs.specs.File.{IsFileOf}
use Rattle.ca_fault.specs.declared.fault.Fault.{Fault}
use Rattle.ca_fault.specs.declared.fault.Fault.TheVariants as fault_
use Rattle.ca_load.specs.Files.{IsFileWith}
use Rattle.ca_patterns.specs.declared.patterns.TheConstants.{MAX_STIL}
use Rattle.ca_patterns.specs.Patterns.{IsStilCause}
use Rattle.ca_patterns.specs.Right.{HasRight}
use Rattle.ca_patterns.proofs.OneLemmas.{no_cause}
use Rattle.ca_verifying.specs.declared.certificates.TheConstants.{MAX_CERT}
use Rattle.ca_verifying.specs.Verifying.{HasOneEach, IsBadCert}
use Rattle.ca_verifying.proofs.OneLemmas.{one_bad}
use Rattle.ca_flow_laws.proofs.FileLemmas.{AtFile, one_of, one_at_file, none_of_read}
use Rattle.ca_flow_laws.proofs.OneLemmas.{AreOne}
use Rattle.ca_flow_laws.proofs.StilLemmas.{same_stil, ReportsStil, AtPatterns, patterns_also, one_patterns}

-- bodies that are alike are both library instances, or neither is
same_if_gate : (u : ℕ) (body also : Body) → AreBodiesAlike body also → if_gate u body ≡ if_gate u also
same_if_gate u (Gate cell inputs outputs) (Gate other ins outs) alike = refl
same_if_gate u (Gate cell inputs outputs) (Scan nets) alike = absurd alike
same_if_gate u (Scan nets) (Gate cell inputs outputs) alike = absurd alike
same_if_gate u (Scan nets) (Scan others) alike = refl

-- the library instances of lists that are alike are the same
gates_same : (n : ℕ) (xs ys : List Part) → length xs ≡ length ys
    → ((u : ℕ) (x y : Part) → slice_get xs u ≡ Some x → slice_get ys u ≡ Some y → AreBodiesAlike x.body y.body)
    → gates_from n xs ≡ gates_from n ys
gates_same n [] [] same each = refl
gates_same n [] (y ∷ ys) same each = absurd (omega (arith, same))
gates_same n (x ∷ xs) [] same each = absurd (omega (arith, same))
gates_same n (x ∷ xs) (y ∷ ys) same each = ap₂ (λ (a b : List ℕ). a ++ b) (same_if_gate n x.body y.body (each 0 x y refl refl))
    (gates_same (n + 1) xs ys (omega (arith, same)) (λ u. each (suc u)))

same_gates : (chip also : LinkedChip) → AreAlike chip also → gates_of chip ≡ gates_of also
same_gates chip also alike = gates_same 0 chip.parts also.parts alike.same_parts
    (λ u part other at at_other. (alike.parts u part other at at_other).body)

-- chains and right patterns of a chip, for which a fault of the certificate is reported
pub record AtCert (stil cert : List ℕ) (given : Files) (chip : LinkedChip) (fault : Fault) : Type 0 where
  pub chains : List (List ℕ)
  pub all : AreAllChains chip chains
  pub at : IsFileWith given stil MAX_STIL
      (HasRight chip chains (λ file. AtFile MAX_CERT cert (IsBadCert chip) (given cert) fault))

-- what is reported of the files of `verify`
abbrev pub AtVerification : List ℕ → List ℕ → Files → LinkedChip → Fault → Type 0
AtVerification stil cert given chip fault = AtPatterns stil given chip fault ⊎ AtCert stil cert given chip fault

module _ (chip also : LinkedChip) (are : AreOne chip also) where
  -- their defects are the same
  same_defects : listed_defects chip ≡ listed_defects also
  same_defects = ap₂ chip_defects are.core (same_gates chip also are.alike)

  pub one_each_also : (certificate : Certificate) → HasOneEach chip certificate → HasOneEach also certificate
  one_each_also certificate one_each = one_each ∙ ap (λ (defects : List ChipDefect). length defects) same_defects

  bad_also : (bytes : List ℕ) (fault : Fault) → IsBadCert chip fault bytes → IsBadCert also fault bytes
  bad_also bytes (fault_.Cert line) bad = bad
  bad_also bytes (fault_.CertChip claims) bad = record {
    certificate = bad.certificate;
    is = bad.is;
    counted = bad.counted;
    other = λ e. bad.other (e ∙ ap (λ (defects : List ChipDefect). length defects) (sym same_defects));
  }
  bad_also bytes fault bad = absurd bad

  at_cert_also : (cert : List ℕ) (given : Files) (fault : Fault)
      → AtFile MAX_CERT cert (IsBadCert chip) (given cert) fault → AtFile MAX_CERT cert (IsBadCert also) (given cert) fault
  at_cert_also cert given fault at = by (given cert) at
    where
      by : (file : Option (List ℕ)) → AtFile MAX_CERT cert (IsBadCert chip) file fault
          → AtFile MAX_CERT cert (IsBadCert also) file fault
      by None at = absurd at
      by (Some bytes) (inl long) = inl long
      by (Some bytes) (inr (within, bad)) = inr (within, bad_also bytes fault bad)

  cert_also : (stil cert : List ℕ) (given : Files) (fault : Fault) → AtCert stil cert given chip fault → AtCert stil cert given also fault
  cert_also stil cert given fault at = record {
    chains = at.chains;
    all = (one_trace chip also are.alike).chains at.chains at.all;
    at = by (given stil) at.at;
  }
    where
      by : (file : Option (List ℕ)) → IsSomeAnd file (λ bytes. (length bytes ≤ MAX_STIL)
          × HasRight chip at.chains (λ file. AtFile MAX_CERT cert (IsBadCert chip) (given cert) fault) bytes)
          → IsSomeAnd file (λ bytes. (length bytes ≤ MAX_STIL)
          × HasRight also at.chains (λ file. AtFile MAX_CERT cert (IsBadCert also) (given cert) fault) bytes)
      by None held = held
      by (Some bytes) (within, right) = (
        within,
        record {
          file = right.file;
          is = subst (λ (stil : StilChip). IsFileOf stil bytes right.file) (same_stil chip also are.alike at.chains) right.is;
          few = right.few;
          right = subst (λ (core : flat.Chip). AreExpected core right.file.pairs right.file.expected) are.core right.right;
          holds = at_cert_also cert given fault right.holds;
        },
      )

  pub verification_also : (stil cert : List ℕ) (given : Files) (fault : Fault) → AtVerification stil cert given chip fault
      → AtVerification stil cert given also fault
  verification_also stil cert given fault (inl at) = inl (patterns_also chip also are stil given fault at)
  verification_also stil cert given fault (inr at) = inr (cert_also stil cert given fault at)

-- of one chip it is one fault
module _ (chip : LinkedChip) (stil cert : List ℕ) (given : Files) where
  -- the certificate's
  one_cert : (fault other : Fault) → AtCert stil cert given chip fault → AtCert stil cert given chip other → fault ≡ other
  one_cert fault other here there =
      by (given stil) here.at (subst (λ (list : List (List ℕ)). IsFileWith given stil MAX_STIL
      (HasRight chip list (λ file. AtFile MAX_CERT cert (IsBadCert chip) (given cert) other))) same there.at)
    where
      same : there.chains ≡ here.chains
      same = (one_answer chip).one_list there.chains here.chains there.all here.all

      by : (file : Option (List ℕ)) → IsSomeAnd file (λ bytes. (length bytes ≤ MAX_STIL)
          × HasRight chip here.chains (λ file. AtFile MAX_CERT cert (IsBadCert chip) (given cert) fault) bytes)
          → IsSomeAnd file (λ bytes. (length bytes ≤ MAX_STIL)
          × HasRight chip here.chains (λ file. AtFile MAX_CERT cert (IsBadCert chip) (given cert) other) bytes) → fault ≡ other
      by None one two = absurd one
      by (Some bytes) (within, one) (also, two) =
          one_at_file MAX_CERT cert (IsBadCert chip) (one_bad chip) (given cert) fault other one.holds two.holds

  -- right patterns have none
  never_both : (fault other : Fault) → AtPatterns stil given chip fault → AtCert stil cert given chip other → ⊥
  never_both fault other here there =
      none_of_read MAX_STIL stil (ReportsStil chip)
      (HasRight chip there.chains (λ file. AtFile MAX_CERT cert (IsBadCert chip) (given cert) other)) (given stil) fault
      (λ bytes reported right.
      let same : reported.0 ≡ there.chains = (one_answer chip).one_list reported.0 there.chains reported.1.0 there.all in
      no_cause chip there.chains there.all bytes right.file right.is right.few right.right fault
      (subst (λ (list : List (List ℕ)). IsStilCause chip list fault bytes) same reported.1.1))
      here there.at

  pub one_verification : (fault other : Fault) → AtVerification stil cert given chip fault → AtVerification stil cert given chip other → fault ≡ other
  one_verification = one_of (λ (fault other : Fault). fault ≡ other) (AtPatterns stil given chip) (AtCert stil cert given chip)
      (one_patterns chip stil given) one_cert never_both
