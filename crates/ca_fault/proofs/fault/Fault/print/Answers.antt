use Rattle.std.proofs.Common.{◌∙◌, ap}
use Rattle.ca_store.specs.Store.{appended}
use Rattle.ca_fault.proofs.PieceLemmas.{line_joined, on_ok_from}
use Rattle.ca_fault.proofs.fault.Fault.print.Goals as goal

pub returns-clause-ok : goal.returns-clause-ok
returns-clause-ok g c =
    let line = line_joined c.as_slice.result.now c.text-text.result.start.now c.text-text.result.word.now c.text-text.result.end.now
    c.text-text.result.last.now c.as_slice-2.result.now
    _ _ _ c.as_slice.ensures c.text-text.ensures c.as_slice-2.ensures in
    on_ok_from c.write_pieces.result _ _ (λ held. held ∙ ap (λ bytes. appended bytes (g.W.Sink.bytes c.args.err.now)) line) c.write_pieces.ensures.ok
