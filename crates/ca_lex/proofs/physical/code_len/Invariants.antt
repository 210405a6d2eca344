use Rattle.std.proofs.Common.{◌≡◌, ◌+◌, true, length}
use Rattle.ca_lex.specs.Physical.{code_len}
use Rattle.ca_lex.proofs.physical.code_len.Given as goal

abbrev pub invariant-bytes : goal.invariant-bytes
invariant-bytes l = (l.len + code_len l.begins l.rest ≡ code_len true l.line) × (l.len + length l.rest ≡ length l.line)

abbrev pub decreases-bytes : goal.decreases-bytes
decreases-bytes l = length l.rest
