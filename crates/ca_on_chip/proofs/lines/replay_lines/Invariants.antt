use Rattle.std.proofs.Common.{◌≡◌}
use Rattle.ca_outputs.specs.Outputs.{output_names}
use Rattle.ca_on_chip.specs.Lines.{end_line, lines_by}
use Rattle.ca_on_chip.proofs.lines.replay_lines.Given as goal

abbrev pub invariant-loop-o : goal.invariant-loop-o
invariant-loop-o l = l.text ≡ lines_by (end_line (output_names l.chip) l.ends) l.o
