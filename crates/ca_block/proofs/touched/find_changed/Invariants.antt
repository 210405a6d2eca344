use Rattle.ca_block.specs.code.Touched.{AreChanged}
use Rattle.ca_block.proofs.touched.find_changed.Given as goal

abbrev pub invariant-loop-node : goal.invariant-loop-node
invariant-loop-node l = AreChanged l.node l.state l.other l.changed
