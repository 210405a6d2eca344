use Rattle.std.proofs.Common.{◌≡◌, ◌+◌, length}
use Rattle.ca_cert_text.specs.code.Cut.{len_before}
use Rattle.ca_cert_text.proofs.cut.len_before.Given as goal

abbrev pub invariant-bytes : goal.invariant-bytes
invariant-bytes l = record {
  counted : l.len + len_before l.byte l.rest ≡ len_before l.byte l.text;
  within : l.len + length l.rest ≡ length l.text;
}

abbrev pub decreases-bytes : goal.decreases-bytes
decreases-bytes l = length l.rest
