use Rattle.std.proofs.Common.{◌≡◌, ◌<◌, ◌∙◌, sym, subst, arith, length, map}
use Rattle.std.specs.List.{All}
use Rattle.std.proofs.lemmas.List.{length-set, length-map}
use Rattle.ca_credit.specs.Defects.{Task}
use Rattle.ca_flat.specs.Pair.{bit_count}
use Rattle.ca_benches.proofs.ListLemmas.{map_same, firsts_more, firsts_all, at_each}
use Rattle.ca_code.specs.Filled.{trits_of}
use Rattle.ca_benches.proofs.parts.load_all.Goals as goal

pub load-requires : goal.load-requires
load-requires g c =
    let parts = c.loop-k.parts.items in
    let within : c.loop-k.k < length parts = let below = c.loop-k-test.true in let count = c.len-k-end.ensures in let room = c.loop-k.invariant.room in omega arith in
    at_each (λ (task : Task). length c.args.pair.now ≡ bit_count task.chip) g.B.Simulator.task parts c.loop-k.k c.index_mut.result.now within
    c.index_mut.ensures.value
    (subst (All (λ (task : Task). length c.args.pair.now ≡ bit_count task.chip)) (sym c.loop-k.invariant.tasks) c.requires)

pub loop-k-preserved : goal.loop-k-preserved
loop-k-preserved g c =
    let parts = c.loop-k.parts.items in
    let k = c.loop-k.k in
    let x = c.index_mut.result.now in
    let y = c.load.new.self in
    let was = c.loop-k.invariant in
    let within : k < length parts = let below = c.loop-k-test.true in let count = c.len-k-end.ensures in let room = was.room in omega arith in
    record {
      room = length-set parts k y ∙ was.room;
      tasks = map_same g.B.Simulator.task parts k x y c.index_mut.ensures.value c.load.ensures.task ∙ was.tasks;
      bits = firsts_more g.B.Simulator.bits parts k y (trits_of c.args.pair.now) within c.load.ensures.bits was.bits;
      aimed = map_same g.B.Simulator.aimed parts k x y c.index_mut.ensures.value c.load.ensures.aimed ∙ was.aimed;
      aimed_in = map_same g.B.Simulator.aimed_in parts k x y c.index_mut.ensures.value c.load.ensures.aimed_in ∙ was.aimed_in;
    }

pub returns-clause-bits : goal.returns-clause-bits
returns-clause-bits g c =
    let all = map g.B.Simulator.bits c.loop-k.parts.items in
    let many = length-map c.loop-k.parts.items g.B.Simulator.bits in
    let past = c.loop-k-test.false in
    let count = c.len-k-end.ensures in
    let room = c.loop-k.invariant.room in
    firsts_all (λ own. own ≡ (trits_of c.args.pair.now)) all c.loop-k.k (omega arith) c.loop-k.invariant.bits
