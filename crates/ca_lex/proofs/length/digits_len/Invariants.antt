use Rattle.std.proofs.Common.{◌≡◌, ◌+◌, length}
use Rattle.ca_lex.specs.Length.{digits_len}
use Rattle.ca_lex.proofs.length.digits_len.Given as goal

abbrev pub invariant-digits : goal.invariant-digits
invariant-digits l = (l.len + digits_len l.rest ≡ digits_len l.text) × (l.len + length l.rest ≡ length l.text)

abbrev pub decreases-digits : goal.decreases-digits
decreases-digits l = length l.rest
