use Rattle.std.proofs.Common.{length}
use Rattle.ca_planes.specs.Trits.{HasNodes}
use Rattle.ca_block.proofs.TouchedLemmas.{KeepsTo}
use Rattle.ca_block.proofs.touched.keep.Given as goal

abbrev pub invariant-loop-node : goal.invariant-loop-node
invariant-loop-node l = record {
  room : HasNodes (length l.labels) l.out;
  kept : KeepsTo l.labels l.marks l.from l.fn.out l.out l.node;
}
