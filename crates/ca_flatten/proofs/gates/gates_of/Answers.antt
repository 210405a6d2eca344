use Rattle.std.proofs.Common.{arith}
use Rattle.ca_flatten.proofs.GateLemmas.{library_known}
use Rattle.ca_flatten.proofs.MarkLemmas.{listed_is_library, marked_more, all_marked}
use Rattle.ca_flatten.proofs.gates.gates_of.Goals as goal

pub index_mut-requires : goal.index_mut-requires
index_mut-requires c =
    let chip = c.args.chip.now in
    let known = library_known chip c.instance.result.0 (listed_is_library chip c.loop-k.k c.instance.result.0 c.instance.ensures) in
    let room = c.loop-k.invariant.room in omega arith

pub loop-k-preserved : goal.loop-k-preserved
loop-k-preserved c =
    let chip = c.args.chip.now in
    let known = library_known chip c.instance.result.0 (listed_is_library chip c.loop-k.k c.instance.result.0 c.instance.ensures) in
    marked_more chip c.loop-k.k c.instance.result.0 c.loop-k.marks.items c.loop-k.invariant c.instance.ensures
    (let room = c.loop-k.invariant.room in omega arith)

pub returns : goal.returns
returns c = all_marked c.args.chip.now c.loop-k.k c.loop-k.marks.items c.loop-k.invariant
    (let e = c.instances-k-end.ensures in let past = c.loop-k-test.false in omega arith)
    (let e = c.parts-parts.ensures in let few = c.if-parts.false in omega arith)
