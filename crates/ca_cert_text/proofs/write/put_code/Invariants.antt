use Rattle.std.proofs.Common.{◌≡◌, ◌++◌, take}
use Rattle.ca_cert_text.specs.CertText.{code_words}
use Rattle.ca_cert_text.proofs.write.put_code.Given as goal

abbrev pub invariant-loop-place : goal.invariant-loop-place
invariant-loop-place l = l.text ≡ l.fn.text ++ code_words (take l.place l.code)
