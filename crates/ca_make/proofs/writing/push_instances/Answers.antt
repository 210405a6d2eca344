use Rattle.ca_make.specs.NetlistText.{instance_line}
use Rattle.ca_make.proofs.ListLemmas.{text_more}
use Rattle.ca_make.proofs.writing.push_instances.Goals as goal

pub loop-k-preserved : goal.loop-k-preserved
loop-k-preserved c =
    text_more instance_line c.loop-k.k c.args.gates.now c.get.result c.args.text.now c.loop-k.text c.push_instance.new.text
    c.get.ensures c.loop-k.invariant (c.in_ok-push_instance.ensures {u = tt})
