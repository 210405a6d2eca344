use Rattle.std.proofs.Common.{◌≡◌}
use Rattle.ca_outputs.specs.Outputs.{output_names}
use Rattle.ca_on_chip.specs.Lines.{output_line, lines_by}
use Rattle.ca_on_chip.proofs.lines.simulate_lines.Given as goal

abbrev pub invariant-loop-o : goal.invariant-loop-o
invariant-loop-o l = l.text ≡ lines_by (output_line (output_names l.chip) l.ends.good.items l.ends.faulty.items) l.o
