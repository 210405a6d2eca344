use Rattle.ca_flat_text.specs.FlatText.{node_line}
use Rattle.ca_flat_text.proofs.LineLemmas.{text_more}
use Rattle.ca_flat_text.proofs.writing.push_nodes.Goals as goal

pub loop-n-preserved : goal.loop-n-preserved
loop-n-preserved c =
    text_more node_line c.loop-n.n c.args.net.now.nodes c.kind.result c.args.text.now c.loop-n.text c.push_node_line.new.text
    c.kind.ensures c.loop-n.invariant (c.in_ok-push_node_line.ensures {u = tt})
