use Rattle.std.proofs.Common.{◌≡◌, ◌∙◌, length, arith, below_more}
use Rattle.ca_merge_tests.proofs.MemberLemmas.{list_more, all_can}
use Rattle.ca_merge_tests.proofs.merges.all_instances.Goals as goal

pub loop-k-preserved : goal.loop-k-preserved
loop-k-preserved c = record {
  list = list_more c.loop-k.k c.loop-k.list c.push.new.self c.loop-k.invariant.list c.in-Ok.ensures.ok;
  gates = below_more _ _ c.loop-k.invariant.gates (c.is_library.ensures.0 c.if-is_library.true);
}

pub returns : goal.returns
returns c =
    let count = c.parts-k-end.ensures in
    let end = c.loop-k.auto.k-end in
    let out = c.loop-k-test.false in
    let some = c.if-len-eq0.false in
    let l = c.len.ensures in
    all_can c.args.chip.now c.loop-k.list c.loop-k.k c.loop-k.invariant.list (omega arith) c.loop-k.invariant.gates
    (let none : length c.loop-k.list ≡ 0 → ⊥ = λ e. some (l ∙ e) in omega (arith, none))
