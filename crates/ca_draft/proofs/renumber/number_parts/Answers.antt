use Rattle.std.proofs.Common.{◌≡◌, ◌<◌, ◌∙◌, ap, sym, refl, arith, length, ℕ}
use Rattle.std.specs.Prelude.{Some, slice_get}
use Rattle.std.specs.List.{All}
use Rattle.ca_linked.specs.declared.parts.Part.{Part}
use Rattle.ca_linked.specs.declared.parts.Body.{Body}
use Rattle.ca_linked.proofs.DriverLemmas.{some_inj}
use Rattle.ca_draft.specs.code.OnWires.{numbered, numbered_part, pins_of}
use Rattle.ca_draft.proofs.MarkLemmas.{changed_more, holds_at, got, unchanged_at}
use Rattle.ca_draft.proofs.renumber.number_parts.Goals as goal

pub number_body-requires : goal.number_body-requires
number_body-requires c =
    let test = c.loop-u-test.true in
    let count = c.loop-u.invariant.count in
    let end = c.len-u-end.ensures in
    let lt : c.loop-u.u < length c.loop-u.parts.items = omega (arith, test, count, end) in
    holds_at (numbered_part c.args.table.now.numbers) (λ (p : Part). All (λ (wire : ℕ). wire < length c.args.table.now.numbers) (pins_of p.body))
    c.loop-u.u c.index.result.now c.args.parts.now.items c.loop-u.parts.items c.requires c.loop-u.invariant
    (got c.loop-u.parts.items c.loop-u.u c.index.result.now lt c.index.ensures)

pub loop-u-preserved : goal.loop-u-preserved
loop-u-preserved c =
    let test = c.loop-u-test.true in
    let count = c.loop-u.invariant.count in
    let end = c.len-u-end.ensures in
    let lt : c.loop-u.u < length c.loop-u.parts.items = omega (arith, test, count, end) in
    let here : slice_get c.loop-u.parts.items c.loop-u.u ≡ Some c.index.result.now = got c.loop-u.parts.items c.loop-u.u c.index.result.now lt c.index.ensures in
    let there : slice_get c.loop-u.parts.items c.loop-u.u ≡ Some c.index_mut.result.now = got c.loop-u.parts.items c.loop-u.u c.index_mut.result.now lt c.index_mut.ensures.value in
    let same : c.index.result.now ≡ c.index_mut.result.now = some_inj c.index.result.now c.index_mut.result.now (sym here ∙ there) in
    changed_more (numbered_part c.args.table.now.numbers) c.loop-u.u c.index_mut.result.now _ c.args.parts.now.items c.loop-u.parts.items _
    (unchanged_at (numbered_part c.args.table.now.numbers) c.loop-u.u c.index_mut.result.now c.args.parts.now.items c.loop-u.parts.items c.loop-u.invariant there)
    c.loop-u.invariant
    (ap (λ (b : Body). let made : Part = record { name = c.index_mut.result.now.name; cell = c.index_mut.result.now.cell; «data» = c.index_mut.result.now.«data»; body = b } in made)
    (c.in_ok-body.ensures {u = tt} ∙ ap (λ (p : Part). numbered c.args.table.now.numbers p.body) same))
    refl
