use Rattle.ca_matrix.specs.code.Single.{AreFound}
use Rattle.ca_matrix.proofs.single.push_block.Given as goal

abbrev pub invariant-loop-number : goal.invariant-loop-number
invariant-loop-number l = AreFound l.cell l.overlay.defect l.number l.rows
