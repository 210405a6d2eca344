use Rattle.ca_make.specs.NetlistText.{output_port}
use Rattle.ca_make.proofs.ListLemmas.{counted_more}
use Rattle.ca_make.proofs.writing.push_output_ports.Goals as goal

pub loop-j-preserved : goal.loop-j-preserved
loop-j-preserved c =
    counted_more output_port c.loop-j.j c.args.text.now c.loop-j.text c.push_numbered.new.text
    c.loop-j.invariant (c.in_ok-push_numbered.ensures {u = tt})
