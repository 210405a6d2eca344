use Rattle.std.proofs.Common.{◌*◌, subst, arith}
use Rattle.ca_matrix.specs.code.Filled.{block_end}
use Rattle.ca_matrix.specs.code.Single.{AreFound}
use Rattle.ca_matrix.proofs.BlockLemmas.{rows_are, block_begins, blocks_end}
use Rattle.ca_matrix.proofs.SingleLemmas.{all_found}
use Rattle.ca_matrix.proofs.single.rows_in.Goals as goal

pub push_block-requires-clause-rows : goal.push_block-requires-clause-rows
push_block-requires-clause-rows c =
    let raw = c.args.cell.now in
    let rows = rows_are raw c.vector_count-vectors.result c.inputs.result c.vector_count-vectors.ensures.count c.inputs.ensures.count in
    subst (λ k. AreFound raw c.args.overlay.now.defect k c.loop-block.rows)
    (block_begins raw (c.vector_count-vectors.result * c.vector_count-vectors.result) c.div_ceil-block-end.result c.loop-block.block rows
    c.div_ceil-block-end.ensures c.loop-block-test.true) c.loop-block.invariant.rows

pub returns : goal.returns
returns c =
    let raw = c.args.cell.now in
    let rows = rows_are raw c.vector_count-vectors.result c.inputs.result c.vector_count-vectors.ensures.count c.inputs.ensures.count in
    all_found raw c.args.overlay.now.defect (block_end raw c.loop-block.block) c.loop-block.rows c.loop-block.invariant.rows
    (blocks_end raw (c.vector_count-vectors.result * c.vector_count-vectors.result) c.div_ceil-block-end.result c.loop-block.block rows
    c.div_ceil-block-end.ensures (omega (arith, c.loop-block-test.false)))
