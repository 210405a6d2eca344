use Rattle.std.proofs.Common.{◌≡◌, ◌++◌, length}
use Rattle.ca_cert_text.specs.CertText.{code_words, AreTokens}
use Rattle.ca_cert_text.specs.code.Reading.{Leaves}
use Rattle.ca_cert_text.proofs.code.code_of.Given as goal

abbrev pub invariant-words : goal.invariant-words
invariant-words l = record {
  are : AreTokens l.code;
  read : l.text ≡ code_words l.code ++ l.rest;
  leaves : Leaves l.text l.rest;
}

abbrev pub decreases-words : goal.decreases-words
decreases-words l = length l.rest
