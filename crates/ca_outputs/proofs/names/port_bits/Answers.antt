use Rattle.std.proofs.Common.{[]}
use Rattle.ca_outputs.specs.Outputs.{port_outputs}
use Rattle.ca_outputs.proofs.OutputLemmas.{names_more}
use Rattle.ca_outputs.proofs.names.port_bits.Goals as goal

pub loop-p-preserved : goal.loop-p-preserved
loop-p-preserved c =
    let chip = c.args.chip.now in
    names_more (port_outputs chip) chip.ports c.loop-p.p [] c.loop-p.names c.push_port.new.names c.loop-p.invariant
    (c.in_ok-push_port.ensures {u = tt})
