use Rattle.std.proofs.Common.{◌≡◌, drop, length}
use Rattle.std.specs.List.{prefix_len}
use Rattle.ca_lex.specs.Words.{is_blank}
use Rattle.ca_lex.proofs.physical.without_blanks.Given as goal

abbrev pub invariant-bytes : goal.invariant-bytes
invariant-bytes l = drop (prefix_len is_blank l.rest) l.rest ≡ drop (prefix_len is_blank l.line) l.line

abbrev pub decreases-bytes : goal.decreases-bytes
decreases-bytes l = length l.rest
