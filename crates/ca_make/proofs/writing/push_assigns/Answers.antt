use Rattle.ca_make.specs.NetlistText.{assign_line}
use Rattle.ca_make.proofs.ListLemmas.{text_more}
use Rattle.ca_make.proofs.writing.push_assigns.Goals as goal

pub loop-j-preserved : goal.loop-j-preserved
loop-j-preserved c =
    text_more assign_line c.loop-j.j c.args.outputs.now c.get.result c.args.text.now c.loop-j.text c.push_assign.new.text
    c.get.ensures c.loop-j.invariant (c.in_ok-push_assign.ensures {u = tt})
