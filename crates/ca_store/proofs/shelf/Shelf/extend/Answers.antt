use Rattle.std.proofs.Common.{arith, ◌≡◌, ◌+◌, length, ap, ◌∙◌, length-append, refl}
use Rattle.std.specs.Result.{is_ok}
use Rattle.ca_store.proofs.Shelves.{files_grown, laid_grown}
use Rattle.ca_store.proofs.shelf.Shelf.extend.Goals as goal

pub invariant_of-self : goal.invariant_of-self
invariant_of-self c =
    let old = c.self.inside in
    let items = rw (ap is_ok c.unwrap.ensures) at c.extend_from_slice.ensures.items in
    let len = rw (ap is_ok c.unwrap.ensures) at c.extend_from_slice.ensures.len in
    let grown : length c.extend_from_slice.new.self.items ≡ length old.bytes.items + length c.args.more.now =
    ap length items ∙ length-append old.bytes.items c.args.more.now in (
      laid_grown (length old.bytes.items) _ old.spans.items c.self.invariant.0 (omega (arith, grown)),
      omega (arith, len, c.self.invariant.1, c.requires, c.extend_from_slice.ensures.capacity),
      c.self.invariant.2,
    )

pub returns : goal.returns
returns c =
    let old = c.self.inside in
    let items = rw (ap is_ok c.unwrap.ensures) at c.extend_from_slice.ensures.items in
    rw (← c.self.view_is, items, files_grown old.bytes.items c.args.more.now old.spans.items c.self.invariant.0) refl
