use Rattle.std.proofs.Common.{arith, ◌≡◌, ◌≢◌, ◌<◌, ap, length, ◌∙◌, sym, ◌-◌, true}
use Rattle.std.proofs.lemmas.Slice.Eq.{bytes_eq-Decides}
use Rattle.ca_store.specs.Memory.{name_at}
use Rattle.ca_store.specs.Arena.{Shelved}
use Rattle.ca_store.proofs.Shelves.{stands_at, length_spans}
use Rattle.ca_store.proofs.LastFiles.{none_past, not_here, is_here}
use Rattle.ca_store.proofs.shelf.Shelf.find.Goals as goal

pub loop-place-init : goal.loop-place-init
loop-place-init c =
    let shelf = c.self.inside in
    let files = ap (λ (v : Shelved). v.files) c.self.view_is in
    let all : c.len-place.result ≡ length c.args.self.now.files =
    omega (arith, c.len-place.ensures, length_spans shelf.bytes.items shelf.spans.items _ files, shelf.spans.ok) in
    record { within = omega arith; none = none_past c.args.self.now.files c.args.name.now c.len-place.result all }

pub index-span-requires : goal.index-span-requires
index-span-requires c =
    let files = ap (λ (v : Shelved). v.files) c.self.view_is in
    omega (
      arith,
      c.loop-place.invariant.within,
      length_spans c.self.inside.bytes.items c.self.inside.spans.items _ files,
      c.self.inside.spans.ok,
    )

pub part_of-requires : goal.part_of-requires
part_of-requires c =
    let shelf = c.self.inside in
    let at = stands_at shelf.bytes.items shelf.spans.items c.args.self.now.files (c.loop-place.place - 1) c.loop-place.place
    c.index-span.result.now (ap (λ (v : Shelved). v.files) c.self.view_is) c.self.invariant.0 (omega arith)
    (omega (arith, c.loop-place.invariant.within)) c.index-span.ensures in
    record { ordered = at.ordered; within = omega (arith, at.until, at.within, ap length c.deref.ensures.value) }

pub returns-then-eq : goal.returns-then-eq
returns-then-eq c =
    let shelf = c.self.inside in
    let below : c.loop-place.place - 1 < length c.args.self.now.files = omega (arith, c.loop-place.invariant.within) in
    let at = stands_at shelf.bytes.items shelf.spans.items c.args.self.now.files (c.loop-place.place - 1) c.loop-place.place
    c.index-span.result.now (ap (λ (v : Shelved). v.files) c.self.view_is) c.self.invariant.0 (omega arith) below
    c.index-span.ensures in
    let same : name_at c.args.self.now.files (c.loop-place.place - 1) ≡ c.args.name.now =
    rw (at.named, ← c.deref.ensures.value) (sym c.part_of.ensures)
    ∙ (bytes_eq-Decides c.part_of.result.now c.args.name.now).0 (sym c.if-eq.ensures) in (
      below,
      same,
      is_here c.args.self.now.files c.args.name.now (c.loop-place.place - 1) c.loop-place.place (omega arith)
          below c.loop-place.invariant.none same,
    )

pub loop-place-preserved : goal.loop-place-preserved
loop-place-preserved c =
    let shelf = c.self.inside in
    let below : c.loop-place.place - 1 < length c.args.self.now.files = omega (arith, c.loop-place.invariant.within) in
    let at = stands_at shelf.bytes.items shelf.spans.items c.args.self.now.files (c.loop-place.place - 1) c.loop-place.place
    c.index-span.result.now (ap (λ (v : Shelved). v.files) c.self.view_is) c.self.invariant.0 (omega arith) below
    c.index-span.ensures in
    let named : name_at c.args.self.now.files (c.loop-place.place - 1) ≡ c.part_of.result.now =
    rw (at.named, ← c.deref.ensures.value) (sym c.part_of.ensures) in
    let other : name_at c.args.self.now.files (c.loop-place.place - 1) ≢ c.args.name.now = λ same.
    let equal : true ≡ c.eq.result =
    sym (c.eq.ensures ∙ (bytes_eq-Decides c.part_of.result.now c.args.name.now).1 (sym named ∙ same)) in
    cc (equal, c.if-eq.false) in
    record {
      within = omega arith;
      none = not_here c.args.self.now.files c.args.name.now (c.loop-place.place - 1) c.loop-place.place (omega arith) below
          c.loop-place.invariant.none other;
    }
