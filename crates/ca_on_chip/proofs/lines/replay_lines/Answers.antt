use Rattle.std.proofs.Common.{rules, sym, ◌∙◌}
use Rattle.ca_outputs.specs.Outputs.{output_names}
use Rattle.ca_on_chip.specs.Lines.{end_line}
use Rattle.ca_on_chip.proofs.LineLemmas.{lines_none, end_pushed}
use Rattle.ca_on_chip.proofs.lines.replay_lines.Goals as goal

pub loop-o-init : goal.loop-o-init
loop-o-init c = c.new-text.ensures ∙ sym (lines_none (end_line (output_names c.args.chip.now) c.args.ends.now))

pub loop-o-preserved : goal.loop-o-preserved
loop-o-preserved c = end_pushed (output_names c.args.chip.now) c.in_ok-names.names c.args.ends.now
    c.loop-o.o c.get.result.now c.value_at-value.result c.loop-o.text c.add_end.new.text
    (c.in_ok-names.ensures {u = tt}).names c.loop-o.invariant c.get.ensures (search rules)
    (c.in_ok-add_end.ensures {u = tt})
