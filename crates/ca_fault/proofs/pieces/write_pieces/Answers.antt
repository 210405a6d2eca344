use Rattle.std.proofs.Common.{◌∙◌}
use Rattle.ca_store.proofs.Appends.{at_err}
use Rattle.ca_fault.proofs.PieceLemmas.{pieces_written, part_of_pieces}
use Rattle.ca_fault.proofs.pieces.write_pieces.Goals as goal

pub returns-in_err-write_all-clause-err : goal.returns-in_err-write_all-clause-err
returns-in_err-write_all-clause-err g c =
    at_err c.from_residual.result _
    (part_of_pieces (λ piece. piece.now) c.args.pieces.now c.loop-piece.piece-index _ c.loop-piece-test.true _ _ _ c.loop-piece.invariant.held (c.in_err-write_all.ensures).err)

pub loop-piece-preserved : goal.loop-piece-preserved
loop-piece-preserved g c = record {
  held = pieces_written (λ piece. piece.now) c.args.pieces.now c.loop-piece.piece-index _ c.loop-piece-test.true _ _ _ c.loop-piece.invariant.held (c.in_ok-write_all.ensures).ok;
  quiet = (c.in_ok-write_all.ensures).count.quiet ∙ c.loop-piece.invariant.quiet;
}
