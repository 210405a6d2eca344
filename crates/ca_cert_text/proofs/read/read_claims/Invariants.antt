use Rattle.std.proofs.Common.{◌≡◌, ◌+◌, ◌++◌, length}
use Rattle.ca_cert_text.specs.CertText.{claim_lines, AreClaims}
use Rattle.ca_cert_text.proofs.read.read_claims.Given as goal

abbrev pub invariant-loop-line : goal.invariant-loop-line
invariant-loop-line l = record {
  are : AreClaims l.claims;
  read : l.text ≡ claim_lines l.claims ++ l.rest;
  counted : l.line ≡ length l.claims + 2;
}
