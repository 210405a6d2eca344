use Rattle.std.proofs.Common.{◌≡◌}
use Rattle.ca_stil_read.specs.Line.{after_tokens}
use Rattle.ca_stil_read.proofs.line.after_tokens.Given as goal

abbrev pub invariant-tokens : goal.invariant-tokens
invariant-tokens l = after_tokens l.left l.rest ≡ after_tokens l.count l.text

abbrev pub decreases-tokens : goal.decreases-tokens
decreases-tokens l = l.left
