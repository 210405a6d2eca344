use Rattle.std.proofs.Common.{◌≡◌, length}
use Rattle.ca_order.specs.Lines.{words_of, nodes_of}
use Rattle.ca_order.specs.code.Lines.{nodes_before}
use Rattle.ca_order.proofs.read.nodes_of.Given as goal

abbrev pub invariant-words : goal.invariant-words
invariant-words l = nodes_of l.places (words_of l.text) ≡ nodes_before l.nodes (nodes_of l.places (words_of l.rest))

abbrev pub decreases-words : goal.decreases-words
decreases-words l = length l.rest
