use Rattle.std.proofs.Common.{◌≡◌, ◌++◌, take}
use Rattle.ca_flat_text.specs.FlatText.{lines_from, node_line}
use Rattle.ca_flat_text.proofs.writing.push_nodes.Given as goal

abbrev pub invariant-loop-n : goal.invariant-loop-n
invariant-loop-n l = l.text ≡ l.fn.text ++ lines_from node_line 0 (take l.n l.net.nodes)
