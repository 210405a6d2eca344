use Rattle.std.proofs.Common.{◌≡◌, take, map}
use Rattle.std.specs.List.{concat}
use Rattle.ca_store.specs.Store.{appended}
use Rattle.ca_fault.proofs.pieces.write_pieces.Given as goal

abbrev pub invariant-loop-piece : goal.invariant-loop-piece
invariant-loop-piece g l = record {
  held : g.W.Sink.bytes l.sink ≡ appended (concat (map (λ piece. piece.now) (take l.piece-index l.pieces))) (g.W.Sink.bytes l.initial.sink);
  quiet : g.W.Sink.faults l.sink ≡ g.W.Sink.faults l.initial.sink;
}
