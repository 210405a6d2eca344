use Rattle.ca_cert_text.specs.CertText.{head_line}
use Rattle.ca_cert_text.proofs.WordLemmas.{lines_next}
use Rattle.ca_cert_text.proofs.write.write_certificate.Goals as goal

pub loop-claim-preserved : goal.loop-claim-preserved
loop-claim-preserved c =
    lines_next c.loop-claim.text
    (head_line c.args.certificate.now.budget) c.put_line.new.text c.args.certificate.now.claims
    c.as_slice-claim-items.result.now c.loop-claim.claim-index c.claim-item.result c.as_slice-claim-items.ensures c.loop-claim-test.true
    c.claim-item.is c.loop-claim.invariant c.in_ok-put_line.ensures
