use Rattle.std.proofs.Common.{◌≡◌, ◌++◌, take}
use Rattle.ca_cert_text.specs.CertText.{head_line, claim_lines}
use Rattle.ca_cert_text.proofs.write.write_certificate.Given as goal

abbrev pub invariant-loop-claim : goal.invariant-loop-claim
invariant-loop-claim l = l.text ≡ head_line l.certificate.budget ++ claim_lines
    (take l.claim-index l.certificate.claims)
