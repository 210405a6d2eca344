use Rattle.std.proofs.Common.{arith, ◌≡◌, ◌++◌, ◌∷◌, [], length, take, ap, sym, ◌∙◌}
use Rattle.std.proofs.lemmas.List.{take_more}
use Rattle.ca_store.specs.declared.file_map.File.{File}
use Rattle.ca_store.specs.declared.shelf.Span.{Span}
use Rattle.ca_store.proofs.Shelves.{files_both}
use Rattle.ca_store.proofs.shelf.Shelf.holding.Goals as goal

pub loop-file-preserved : goal.loop-file-preserved
loop-file-preserved c =
    let name = rw c.as_bytes.ensures at c.in_ok-extend_from_slice.ensures.items in
    let bytes = rw (name, c.as_bytes-in-loop-file.ensures) at c.in_ok-extend_from_slice-2.ensures.items in
    let pushed = c.in_ok-push.ensures.items in
    let old = c.loop-file in
    let span : Span = record { start = c.len-start.result; middle = c.len-middle.result } in
    let starts : c.len-start.result ≡ length old.bytes.items = omega (arith, c.len-start.ensures, old.bytes.ok) in
    let middles : c.len-middle.result ≡ length (old.bytes.items ++ c.file-item.result.name) =
    rw (← name) (omega (arith, c.len-middle.ensures, c.extend_from_slice.new.self.ok)) in
    let both = files_both old.bytes.items c.file-item.result.name c.file-item.result.bytes old.spans.items span
    old.invariant.laid starts middles in
    let more = take_more c.args.files.now old.file-index c.file-item.result c.loop-file-test.true ∙ ap (λ (f : File). take old.file-index c.args.files.now ++ f ∷ []) (sym c.file-item.is) in
    record {
      held = rw (bytes, pushed, more, ← old.invariant.held) both.0;
      laid = rw (bytes, pushed) both.1;
    }
