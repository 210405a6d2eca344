use Rattle.std.proofs.Common.{arith, ◌≡◌, ◌+◌, ◌++◌, length, ap, ◌∙◌, length-append, refl}
use Rattle.std.specs.Result.{is_ok}
use Rattle.ca_store.specs.declared.shelf.Span.{Span}
use Rattle.ca_store.proofs.Shelves.{files_added, laid_added}
use Rattle.ca_store.proofs.shelf.Shelf.add.Goals as goal

pub invariant_of-self : goal.invariant_of-self
invariant_of-self c =
    let old = c.self.inside in
    let items = rw (ap is_ok c.unwrap.ensures) at c.extend_from_slice.ensures.items in
    let len = rw (ap is_ok c.unwrap.ensures) at c.extend_from_slice.ensures.len in
    let pushed = rw (ap is_ok c.unwrap-2.ensures) at c.push.ensures.items in
    let spans_len = rw (ap is_ok c.unwrap-2.ensures) at c.push.ensures.len in
    let span : Span = record { start = c.len-start.result; middle = c.len-middle.result } in
    let grown : length c.extend_from_slice.new.self.items ≡ length old.bytes.items + length c.args.name.now =
    ap length items ∙ length-append old.bytes.items c.args.name.now in
    let starts : c.len-start.result ≡ length old.bytes.items = omega (arith, c.len-start.ensures, old.bytes.ok) in
    let middles : c.len-middle.result ≡ length c.extend_from_slice.new.self.items =
    omega (arith, c.len-middle.ensures, c.extend_from_slice.new.self.ok) in (
      rw pushed (laid_added (length old.bytes.items) _ old.spans.items span c.self.invariant.0 (omega (arith, grown))
          starts (omega (arith, starts, middles, grown)) (omega (arith, middles))),
      omega (arith, len, c.self.invariant.1, c.requires.room, c.extend_from_slice.ensures.capacity),
      omega (arith, spans_len, c.self.invariant.2, c.requires.creates, c.push.ensures.capacity),
    )

pub returns : goal.returns
returns c =
    let old = c.self.inside in
    let items = rw (ap is_ok c.unwrap.ensures) at c.extend_from_slice.ensures.items in
    let pushed = rw (ap is_ok c.unwrap-2.ensures) at c.push.ensures.items in
    let span : Span = record { start = c.len-start.result; middle = c.len-middle.result } in
    let starts : c.len-start.result ≡ length old.bytes.items = omega (arith, c.len-start.ensures, old.bytes.ok) in
    let middles : c.len-middle.result ≡ length (old.bytes.items ++ c.args.name.now) =
    rw (← items) (omega (arith, c.len-middle.ensures, c.extend_from_slice.new.self.ok)) in
    let files = files_added old.bytes.items c.args.name.now old.spans.items span c.self.invariant.0 starts middles in
    rw (← c.self.view_is, items, pushed, files) refl
