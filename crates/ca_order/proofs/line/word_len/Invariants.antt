use Rattle.std.proofs.Common.{◌≡◌, ◌+◌, length}
use Rattle.ca_order.specs.code.Lines.{word_len}
use Rattle.ca_order.proofs.line.word_len.Given as goal

abbrev pub invariant-bytes : goal.invariant-bytes
invariant-bytes l = record {
  counted : l.len + word_len l.rest ≡ word_len l.text;
  within : l.len + length l.rest ≡ length l.text;
}

abbrev pub decreases-bytes : goal.decreases-bytes
decreases-bytes l = length l.rest
