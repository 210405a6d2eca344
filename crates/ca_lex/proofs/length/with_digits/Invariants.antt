use Rattle.std.proofs.Common.{◌≡◌, ◌<◌, ◌^◌, ◌+◌, ◌*◌, take, fold}
use Rattle.ca_lex.specs.Length.{with_digit}
use Rattle.ca_lex.proofs.length.with_digits.Given as goal

abbrev pub invariant-loop-digit : goal.invariant-loop-digit
invariant-loop-digit l = (l.value ≡ fold with_digit l.number (take l.digit-index l.digits)) × (l.value < (l.number + 1) * 10 ^ l.digit-index)
