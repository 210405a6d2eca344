-- How what `certify` and `verify` end with follows from what they find.
use Rattle.std.proofs.Common.{ℕ, ◌≡◌, ◌≢◌, ◌⊎◌, ◌∙◌, inl, inr, refl, sym, subst, Bool, List, Option, Some}
use Rattle.ca_store.specs.Store.{Files}
use Rattle.ca_fault.specs.declared.fault.Fault.{Fault}
use Rattle.ca_fault.specs.declared.fault.Fault.TheVariants.{SinkFailed}
use Rattle.ca_linked.specs.Linked.{LinkedChip}
use Rattle.ca_scan.specs.ChainFault.{AreAllChains}
use Rattle.ca_atpg.specs.Atpg.{IsStil}
use Rattle.ca_claim.specs.declared.certificate.Certificate.{Certificate}
use Rattle.ca_claim.specs.declared.certificate.Answer.{Answer}
use Rattle.ca_cert_text.specs.CertText.{certificate_text}
use Rattle.ca_load.specs.Texts.{InputFiles, names_of}
use Rattle.ca_load.specs.Causes.{IsLoadCause}
use Rattle.ca_words.specs.Words.{chip_files, stil_word, cert_word, budget_word}
use Rattle.ca_words.specs.Budget.{HasBudget}
use Rattle.ca_words.specs.declared.words.CertifyWords.{CertifyWords}
use Rattle.ca_words.specs.declared.words.VerifyWords.{VerifyWords}
use Rattle.ca_words.specs.Command.{IsSpelledCertify, IsSpelledVerify}
use Rattle.ca_on_chip.specs.OnChip.{IsChipOfFiles, IsTestsCause}
use Rattle.ca_certifying.specs.Certified.{IsCertified}
use Rattle.ca_verifying.specs.Verifying.{IsAnswerByFiles, IsVerifiedCause, answer_line}
use Rattle.ca_flow.specs.declared.finished.Done.TheVariants.{Certify, Verify}
use Rattle.ca_flow.specs.declared.work.OutFile.{OutFile}
use Rattle.ca_flow.specs.code.Work.{IsOutFile, HasFiles}
use Rattle.ca_flow.specs.Fault.{IsOwnCause, IsWorkCause}
use Rattle.ca_flow.specs.Ends.{IsAsked}
use Rattle.ca_flow.proofs.CauseLemmas.{no_grade_sink}

-- the tests and the certificate that the words of `certify` ask for
pub certify_asked : (words : List (List ℕ)) (request : CertifyWords) (files : Option Files) (chip : LinkedChip) (chains : List (List ℕ))
    (pairs : List (List Bool)) (aims : List ℕ) (certificate : Certificate) → IsSpelledCertify words request → AreAllChains chip chains
    → IsChipOfFiles files (names_of request.files) chip → IsCertified request.budget chip pairs aims certificate
    → IsAsked words files (Certify chip chains pairs aims certificate)
certify_asked words request files chip chains pairs aims certificate spelled all held certified = (
  spelled.is,
  (
    all,
    (
      subst (λ asked. IsChipOfFiles files asked chip) spelled.files held,
      record {
        said = subst (HasBudget (budget_word words)) (sym certified.budget_is) spelled.budget;
        certified = subst (λ budget. IsCertified budget chip pairs aims certificate) (sym certified.budget_is) certified;
      },
    ),
  ),
)

-- the files that they name
pub certify_files : (words : List (List ℕ)) (request : CertifyWords) (chip : LinkedChip) (chains : List (List ℕ))
    (pairs : List (List Bool)) (aims : List ℕ) (certificate : Certificate) (stil text : List ℕ) (first second : OutFile)
    → IsSpelledCertify words request → IsStil chip chains pairs stil → text ≡ certificate_text certificate
    → IsOutFile request.stil.now stil first → IsOutFile request.cert.now text second
    → HasFiles words (Certify chip chains pairs aims certificate) (Some first) (Some second)
certify_files words request chip chains pairs aims certificate stil text first second spelled is text_is first_is second_is = record {
  first_is = record {
    name_is = first_is.name_is ∙ spelled.stil;
    typed_is = first_is.typed_is ∙ spelled.stil;
    holds = subst (IsStil chip chains pairs) (sym first_is.bytes_are) is;
  };
  second_is = record {
    name_is = second_is.name_is ∙ spelled.cert;
    typed_is = second_is.typed_is ∙ spelled.cert;
    bytes_are = second_is.bytes_are ∙ text_is;
  };
}

-- why they ask for none
pub certify_cause : (words : List (List ℕ)) (request : CertifyWords) (files : Option Files) (before after : ℕ) (fault : Fault)
    → IsSpelledCertify words request → IsTestsCause (names_of request.files) request.budget files before after fault
    → IsWorkCause words files before after fault
certify_cause words request files before after fault spelled cause = inr (inr (inr (inr (inl (
  inr (inr (inr (inr (inr (inr (inr (inl spelled.is))))))),
  by (subst (λ asked. IsTestsCause asked request.budget files before after fault) spelled.files cause),
)))))
  where
    by : IsTestsCause (chip_files words) request.budget files before after fault
        → IsLoadCause (chip_files words) files before after fault ⊎ IsOwnCause words files before after fault
    by (inl load) = inl load
    by (inr many) = inr (inr (inr (inr (inr (inr (inr (inl
        (spelled.is, record { budget = request.budget; said = spelled.budget; many = many }))))))))

-- no work of `verify` is refused for the output
pub no_verify_sink : (names : InputFiles) (stil cert : List ℕ) (files : Option Files) (before after : ℕ) (fault : Fault)
    → IsVerifiedCause names stil cert files before after fault → fault ≢ SinkFailed
no_verify_sink names stil cert files before after fault cause same =
    by (subst (IsVerifiedCause names stil cert files before after) same cause)
  where
    by : IsVerifiedCause names stil cert files before after SinkFailed → ⊥
    by (inl loaded) = no_grade_sink names stil files before after SinkFailed loaded refl
    by (inr (inl (held, read))) = read
    by (inr (inr (word, held))) = word

-- the answer that the words of `verify` ask for
pub verify_asked : (words : List (List ℕ)) (request : VerifyWords) (files : Option Files) (chip : LinkedChip) (chains : List (List ℕ))
    (pairs : List (List Bool)) (certificate : Certificate) (answer : Answer) (line : List ℕ)
    → IsSpelledVerify words request → AreAllChains chip chains → IsChipOfFiles files (names_of request.files) chip
    → IsAnswerByFiles files request.stil.now request.cert.now chip chains pairs certificate answer
    → line ≡ answer_line answer → IsAsked words files (Verify chip chains pairs certificate answer line)
verify_asked words request files chip chains pairs certificate answer line spelled all held are is = (
  spelled.is,
  (
    all,
    (
      subst (λ asked. IsChipOfFiles files asked chip) spelled.files held,
      (
        subst (λ name. IsAnswerByFiles files (stil_word words) name chip chains pairs certificate answer) spelled.cert
            (subst (λ name. IsAnswerByFiles files name request.cert.now chip chains pairs certificate answer) spelled.stil are),
        is,
      ),
    ),
  ),
)

-- why they ask for none
pub verify_cause : (words : List (List ℕ)) (request : VerifyWords) (files : Option Files) (before after : ℕ) (fault : Fault)
    → IsSpelledVerify words request
    → IsVerifiedCause (names_of request.files) request.stil.now request.cert.now files before after fault
    → IsWorkCause words files before after fault
verify_cause words request files before after fault spelled cause = inr (inr (inr (inr (inl (
  inr (inr (inr (inr (inr (inr (inr (inr (inl spelled.is)))))))),
  by (subst (λ name. IsVerifiedCause (chip_files words) (stil_word words) name files before after fault) spelled.cert
      (subst (λ name. IsVerifiedCause (chip_files words) name request.cert.now files before after fault) spelled.stil
      (subst (λ asked. IsVerifiedCause asked request.stil.now request.cert.now files before after fault) spelled.files cause))),
)))))
  where
    by : IsVerifiedCause (chip_files words) (stil_word words) (cert_word words) files before after fault
        → IsLoadCause (chip_files words) files before after fault ⊎ IsOwnCause words files before after fault
    by (inl (inl load)) = inl load
    by (inl (inr patterns)) = inr (inr (inr (inr (inr (inr (inr (inr (inl (spelled.is, inl patterns)))))))))
    by (inr cert) = inr (inr (inr (inr (inr (inr (inr (inr (inl (spelled.is, inr cert)))))))))
