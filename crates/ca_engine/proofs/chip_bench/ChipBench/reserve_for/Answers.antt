use Rattle.std.proofs.Common.{refl, subst, sym, ap, length, List, arith}
use Rattle.std.specs.Prelude.{Option}
use Rattle.std.specs.List.{All}
use Rattle.ca_linked.specs.Linked as linked
use Rattle.ca_flat.specs.declared.chip_defect.ChipDefect.{ChipDefect}
use Rattle.ca_view.specs.Core.{core_of}
use Rattle.ca_flatten.specs.Few.{IsFew}
use Rattle.ca_view.specs.Linked.{IsPlacedDefect, place_in}
use Rattle.ca_view.specs.Places.{cell_number}
use Rattle.ca_engine.proofs.CoreLemmas.{core_can_be_judged}
use Rattle.ca_engine.proofs.BenchLemmas.{bench_begins}
use Rattle.ca_engine.proofs.chip_bench.ChipBench.reserve_for.Goals as goal

pub reserve-requires-2-clause-judged : goal.reserve-requires-2-clause-judged
reserve-requires-2-clause-judged g c =
    core_can_be_judged c.args.view.now c.viewed.ensures.wired c.flat_is_well_formed.ensures
    (subst (λ (chip : linked.LinkedChip). (given : Option ChipDefect) → IsFew (core_of chip) given) c.chip.ensures (c.in_ok-judge_size.ensures {u = tt}))
    c.viewed.ensures.is_view

pub invariant_of-result : goal.invariant_of-result
invariant_of-result g c =
    let view = c.args.view.now in
    let same = (c.in_ok-defects.ensures {u = tt}).list in
    let as_many = ap (λ (list : List ChipDefect). length list) same in
    bench_begins view.core view.ranks (cell_number view.chip) c.in_ok-judge.judge _ c.in_ok-defects.defects view.core.outputs
    (c.in_ok-judge.ensures {u = tt}) c.linked.ensures.linked
    (core_can_be_judged view c.viewed.ensures.wired c.flat_is_well_formed.ensures
    (subst (λ (chip : linked.LinkedChip). (given : Option ChipDefect) → IsFew (core_of chip) given) c.chip.ensures (c.in_ok-judge_size.ensures {u = tt}))
    c.viewed.ensures.is_view)
    c.requires.rows (c.in_ok-defects.ensures {u = tt}).chip (subst (All (IsPlacedDefect view.core (place_in view.ranks))) (sym same) c.requires.placed)
    (let count = c.len.ensures in let few = c.if-len.false in omega arith) refl
    (let count = c.output_count.ensures in let few = c.if-output_count.false in omega arith)

pub returns-clause-few : goal.returns-clause-few
returns-clause-few g c =
    let count = c.len.ensures in
    let few = c.if-len.false in
    let as_many = ap (λ (list : List ChipDefect). length list) ((c.in_ok-defects.ensures {u = tt}).list) in
    omega arith
