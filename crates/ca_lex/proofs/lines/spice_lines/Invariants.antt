use Rattle.std.proofs.Common.{◌≡◌, ◌+◌, ◌≤◌, length, map}
use Rattle.ca_lex.specs.Physical.{lines_of, physical_of}
use Rattle.ca_lex.specs.Lines.{spice_lines}
use Rattle.ca_lex.specs.code.Joining.{joined}
use Rattle.ca_lex.proofs.lines.spice_lines.Given as goal

abbrev pub invariant-lines : goal.invariant-lines
invariant-lines l = (joined l.joiner.lines.items l.joiner.last l.number (map physical_of (lines_of l.rest)) ≡ spice_lines l.bytes) × (l.number + length l.rest ≤ length l.bytes + 1)

abbrev pub decreases-lines : goal.decreases-lines
decreases-lines l = length l.rest
