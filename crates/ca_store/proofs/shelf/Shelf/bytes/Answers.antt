use Rattle.std.proofs.Common.{arith, ◌≡◌, ◌+◌, ap, length, drop, refl}
use Rattle.ca_store.specs.Arena.{Shelved}
use Rattle.ca_store.specs.code.Arena.{first_start}
use Rattle.ca_store.proofs.Shelves.{stands_at, length_spans}
use Rattle.ca_store.proofs.shelf.Shelf.bytes.Goals as goal

pub index-span-requires : goal.index-span-requires
index-span-requires c =
    let files = ap (λ (v : Shelved). v.files) c.self.view_is in
    omega (arith, length_spans c.self.inside.bytes.items c.self.inside.spans.items _ files, c.self.inside.spans.ok)

pub end_of-end-requires : goal.end_of-end-requires
end_of-end-requires c =
    let files = ap (λ (v : Shelved). v.files) c.self.view_is in
    omega (arith, length_spans c.self.inside.bytes.items c.self.inside.spans.items _ files, ap length c.deref.ensures.value)

pub part_of-requires : goal.part_of-requires
part_of-requires c =
    let shelf = c.self.inside in
    let at = stands_at shelf.bytes.items shelf.spans.items c.args.self.now.files c.args.place _ c.index-span.result.now
    (ap (λ (v : Shelved). v.files) c.self.view_is) c.self.invariant.0 refl c.requires c.index-span.ensures in
    let size : c.len.result ≡ length shelf.bytes.items = omega (arith, c.len.ensures, shelf.bytes.ok) in
    let ends : c.end_of-end.result ≡ first_start (length shelf.bytes.items) (drop (c.args.place + 1) shelf.spans.items) =
    rw (← size, ← c.deref.ensures.value) c.end_of-end.ensures in
    record { ordered = omega (arith, ends, at.until); within = omega (arith, ends, at.within, ap length c.deref-2.ensures.value) }

pub returns : goal.returns
returns c =
    let shelf = c.self.inside in
    let at = stands_at shelf.bytes.items shelf.spans.items c.args.self.now.files c.args.place _ c.index-span.result.now
    (ap (λ (v : Shelved). v.files) c.self.view_is) c.self.invariant.0 refl c.requires c.index-span.ensures in
    let size : c.len.result ≡ length shelf.bytes.items = omega (arith, c.len.ensures, shelf.bytes.ok) in
    let ends : c.end_of-end.result ≡ first_start (length shelf.bytes.items) (drop (c.args.place + 1) shelf.spans.items) =
    rw (← size, ← c.deref.ensures.value) c.end_of-end.ensures in
    rw (at.holds, ← ends, ← c.deref-2.ensures.value) c.part_of.ensures
