use Rattle.ca_cell.specs.Raw.{circuit_of}
use Rattle.ca_cell.specs.List.{faulty_of}
use Rattle.ca_row_block.specs.Room.{HoldsCellNet}
use Rattle.ca_matrix.specs.code.Filled.{block_end}
use Rattle.ca_matrix.specs.code.Single.{AreFound}
use Rattle.ca_matrix.proofs.single.rows_in.Given as goal

abbrev pub invariant-loop-block : goal.invariant-loop-block
invariant-loop-block l = record {
  rows : AreFound l.cell l.overlay.defect (block_end l.cell l.block) l.rows;
  good : HoldsCellNet (circuit_of l.cell) l.good;
  faulty : HoldsCellNet (faulty_of l.overlay.raw l.overlay.defect) l.faulty;
}
