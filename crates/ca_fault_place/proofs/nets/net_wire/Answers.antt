use Rattle.std.proofs.Common.{◌≡◌, ◌+◌, ◌∙◌, ℕ, ap, length, subst}
use Rattle.ca_verilog.specs.IsNetlist.{bit_count}
use Rattle.ca_wiring.specs.Numbers.{WireMarks}
use Rattle.ca_wiring.specs.Wiring.{joins_of}
use Rattle.ca_draft.specs.code.OnWires.{AreMarks}
use Rattle.ca_fault_place.specs.code.Touched.{IsFoundAmong}
use Rattle.ca_fault_place.proofs.KnownLemmas.{is_found}
use Rattle.ca_fault_place.proofs.WithinLemmas.{listed_within, marks_listed, marks_within}
use Rattle.ca_fault_place.proofs.nets.net_wire.Goals as goal

pub marks_of-requires-clause-listed : goal.marks_of-requires-clause-listed
marks_of-requires-clause-listed c =
    let raw = c.args.netlist.now in
    let count = c.in_ok-bits.bits.count in
    let same : count ≡ bit_count raw.buses = (c.in_ok-bits.ensures {u = tt}).count ∙ ap bit_count c.as_slice.ensures in
    rw (c.deref.ensures.value, c.deref-2.ensures.value)
    (marks_listed (joins_of count raw.joins) (count + 2) c.in_ok-earliest.earliest.items c.in_ok-touched.touched.items
    (c.in_ok-earliest.ensures {u = tt}) (listed_within raw c.requires count same c.in_ok-touched.touched.items (c.in_ok-touched.ensures {u = tt})))

pub marks_of-requires-clause-within : goal.marks_of-requires-clause-within
marks_of-requires-clause-within c =
    let raw = c.args.netlist.now in
    let count = c.in_ok-bits.bits.count in
    let same : count ≡ bit_count raw.buses = (c.in_ok-bits.ensures {u = tt}).count ∙ ap bit_count c.as_slice.ensures in
    rw (c.deref.ensures.value, c.deref-2.ensures.value)
    (marks_within (joins_of count raw.joins) (count + 2) c.in_ok-earliest.earliest.items c.in_ok-touched.touched.items
    (c.in_ok-earliest.ensures {u = tt}) (listed_within raw c.requires count same c.in_ok-touched.touched.items (c.in_ok-touched.ensures {u = tt})))

pub returns : goal.returns
returns c =
    let raw = c.args.netlist.now in
    let count = c.in_ok-bits.bits.count in
    let same : count ≡ bit_count raw.buses = (c.in_ok-bits.ensures {u = tt}).count ∙ ap bit_count c.as_slice.ensures in
    let earliest = c.in_ok-earliest.earliest.items in
    let marks : WireMarks = record { earliest = earliest; used = c.in_ok-used.used.items } in
    let used : AreMarks earliest c.in_ok-touched.touched.items c.in_ok-used.used.items = rw (c.deref.ensures.value, c.deref-2.ensures.value) at (c.in_ok-used.ensures {u = tt}) in
    let are = c.in_ok-earliest.ensures {u = tt} in
    let found : IsFoundAmong marks (length earliest) c.args.net c.nth_wire.result = rw (c.deref-3.ensures.value, c.deref-4.ensures.value) at c.nth_wire.ensures in
    is_found raw c.requires marks c.in_ok-touched.touched.items count same (c.in_ok-touched.ensures {u = tt}) are used c.args.net c.nth_wire.result
    (subst (λ (n : ℕ). IsFoundAmong marks n c.args.net c.nth_wire.result) are.count found)
