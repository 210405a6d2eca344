use Rattle.std.proofs.Common.{◌<◌, subst, arith}
use Rattle.ca_flat.specs.Flat.{inner_count}
use Rattle.ca_view.specs.Core.{core_of}
use Rattle.ca_merge.proofs.SizeLemmas.{members_few}
use Rattle.ca_cluster.proofs.ShortLemmas.{start_here, start_later, start_none, library_at}
use Rattle.ca_cluster.proofs.short.inner_before.Goals as goal

pub inner_count-before-requires : goal.inner_count-before-requires
inner_count-before-requires c =
    library_at c.args.of.now.chip.now c.args.of.now.members.now c.loop-k.k c.get-w.result.0 c.requires.hand.gates
    (subst (λ n. c.loop-k.k < n) c.len-k-end.ensures c.loop-k-test.true) c.get-w.ensures

pub overflow_add-before : goal.overflow_add-before
overflow_add-before c =
    let few = members_few c.args.of.now.chip.now c.args.of.now.members.now c.wired.ensures c.requires.hand.gates c.requires.hand.are in
    let lt = subst (λ n. c.loop-k.k < n) c.len-k-end.ensures c.loop-k-test.true in
    let bound = c.loop-k.invariant.few in
    let most = c.inner_count-before.ensures.few in
    omega arith

pub returns-then-w-u : goal.returns-then-w-u
returns-then-w-u c =
    start_here (inner_count (core_of c.args.of.now.chip.now)) c.args.of.now.members.now c.args.u.0 c.get-w.result.0 c.loop-k.k c.loop-k.before
    (subst (λ n. c.loop-k.k < n) c.len-k-end.ensures c.loop-k-test.true) c.get-w.ensures c.if-w-u.true c.loop-k.invariant.start

pub loop-k-preserved : goal.loop-k-preserved
loop-k-preserved c = record {
  start = start_later (inner_count (core_of c.args.of.now.chip.now)) c.args.of.now.members.now c.args.u.0 c.get-w.result.0 c.loop-k.k c.loop-k.before c.inner_count-before.result
      (subst (λ n. c.loop-k.k < n) c.len-k-end.ensures c.loop-k-test.true) c.get-w.ensures c.if-w-u.false c.inner_count-before.ensures.count c.loop-k.invariant.start;
  few = let bound = c.loop-k.invariant.few in let most = c.inner_count-before.ensures.few in omega arith;
}

pub returns : goal.returns
returns c =
    start_none (inner_count (core_of c.args.of.now.chip.now)) c.args.of.now.members.now c.args.u.0 c.loop-k.k c.loop-k.before
    (let e = c.len-k-end.ensures in let past = c.loop-k-test.false in omega arith) c.loop-k.invariant.start
