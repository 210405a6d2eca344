use Rattle.std.proofs.Common.{rules, sym, ◌∙◌}
use Rattle.ca_outputs.specs.Outputs.{output_names}
use Rattle.ca_on_chip.specs.Lines.{output_line}
use Rattle.ca_on_chip.proofs.LineLemmas.{lines_none, output_pushed}
use Rattle.ca_on_chip.proofs.lines.simulate_lines.Goals as goal

pub loop-o-init : goal.loop-o-init
loop-o-init c = c.new-text.ensures ∙ sym (lines_none (output_line (output_names c.args.chip.now) c.args.ends.now.good.items c.args.ends.now.faulty.items))

pub loop-o-preserved : goal.loop-o-preserved
loop-o-preserved c = output_pushed (output_names c.args.chip.now) c.in_ok-names.names c.args.ends.now.good.items c.args.ends.now.faulty.items
    c.loop-o.o c.get.result.now c.value_at-good.result c.value_at-faulty.result c.loop-o.text c.add_output.new.text
    (c.in_ok-names.ensures {u = tt}).names c.loop-o.invariant c.get.ensures (search rules) (search rules)
    (c.in_ok-add_output.ensures {u = tt})
