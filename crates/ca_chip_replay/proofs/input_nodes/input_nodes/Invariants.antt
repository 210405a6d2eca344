use Rattle.std.proofs.Common.{◌≡◌, take, map}
use Rattle.ca_chip_replay.proofs.InputLemmas.{node_of}
use Rattle.ca_chip_replay.proofs.input_nodes.input_nodes.Given as goal

abbrev pub invariant-loop-input : goal.invariant-loop-input
invariant-loop-input l = l.nodes.items ≡ map node_of (take l.input l.view.core.inputs)
