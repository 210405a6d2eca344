use Rattle.std.proofs.Common.{◌≡◌, ◌<◌, ◌∙◌, ap, sym, refl, arith, length, ℕ}
use Rattle.std.specs.Prelude.{Some, slice_get}
use Rattle.ca_linked.specs.declared.parts.PortBit.{PortBit}
use Rattle.ca_linked.proofs.DriverLemmas.{some_inj}
use Rattle.ca_draft.specs.code.OnWires.{number_of, numbered_port}
use Rattle.ca_draft.proofs.MarkLemmas.{changed_more, holds_at, got, unchanged_at}
use Rattle.ca_draft.proofs.renumber.number_ports.Goals as goal

pub number-net-requires : goal.number-net-requires
number-net-requires c =
    let test = c.loop-p-test.true in
    let count = c.loop-p.invariant.count in
    let end = c.len-p-end.ensures in
    let lt : c.loop-p.p < length c.loop-p.ports.items = omega (arith, test, count, end) in
    holds_at (numbered_port c.args.table.now.numbers) (λ (port : PortBit). port.net < length c.args.table.now.numbers)
    c.loop-p.p c.index.result.now c.args.ports.now.items c.loop-p.ports.items c.requires c.loop-p.invariant
    (got c.loop-p.ports.items c.loop-p.p c.index.result.now lt c.index.ensures)

pub loop-p-preserved : goal.loop-p-preserved
loop-p-preserved c =
    let test = c.loop-p-test.true in
    let count = c.loop-p.invariant.count in
    let end = c.len-p-end.ensures in
    let lt : c.loop-p.p < length c.loop-p.ports.items = omega (arith, test, count, end) in
    let here : slice_get c.loop-p.ports.items c.loop-p.p ≡ Some c.index.result.now = got c.loop-p.ports.items c.loop-p.p c.index.result.now lt c.index.ensures in
    let there : slice_get c.loop-p.ports.items c.loop-p.p ≡ Some c.index_mut.result.now = got c.loop-p.ports.items c.loop-p.p c.index_mut.result.now lt c.index_mut.ensures.value in
    let same : c.index.result.now ≡ c.index_mut.result.now = some_inj c.index.result.now c.index_mut.result.now (sym here ∙ there) in
    changed_more (numbered_port c.args.table.now.numbers) c.loop-p.p c.index_mut.result.now _ c.args.ports.now.items c.loop-p.ports.items _
    (unchanged_at (numbered_port c.args.table.now.numbers) c.loop-p.p c.index_mut.result.now c.args.ports.now.items c.loop-p.ports.items c.loop-p.invariant there)
    c.loop-p.invariant
    (ap (λ (n : ℕ). let made : PortBit = record { name = c.index_mut.result.now.name; is_input = c.index_mut.result.now.is_input; net = n } in made)
    (c.number-net.ensures ∙ ap (λ (p : PortBit). number_of c.args.table.now.numbers p.net) same))
    refl
