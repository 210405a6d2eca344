use Rattle.std.proofs.Common.{◌≡◌, ◌+◌, drop, Some, sym, ◌∙◌, ap, subst, arith}
use Rattle.ca_flat.specs.Codes.{branch_count}
use Rattle.ca_read_code.proofs.ReadLemmas.{counted_branch, counted_leaf, counted_all}
use Rattle.ca_read_code.proofs.read.branch_count.Goals.{in-Branch, in-Leaf}
use Rattle.ca_read_code.proofs.read.branch_count.Goals as goal

pub loop-place-preserved : goal.loop-place-preserved
loop-place-preserved c = elim c.match-get.branch [
  | in-Branch w ↦ record {
    counted = subst (λ n. n + branch_count (drop (c.loop-place.place + 1) c.args.code.now) ≡ branch_count c.args.code.now) (sym w.count-is)
        (counted_branch c.args.code.now c.loop-place.place c.loop-place.count _ _ (c.get.ensures ∙ ap Some w.in-Branch.is) c.loop-place.invariant.counted);
    few = let e = w.count-is in let f = c.loop-place.invariant.few in omega arith;
  }
  | in-Leaf w ↦ record {
    counted = subst (λ n. n + branch_count (drop (c.loop-place.place + 1) c.args.code.now) ≡ branch_count c.args.code.now) (sym w.count-is)
        (counted_leaf c.args.code.now c.loop-place.place c.loop-place.count (c.get.ensures ∙ ap Some w.in-Leaf.is) c.loop-place.invariant.counted);
    few = let e = w.count-is in let f = c.loop-place.invariant.few in omega arith;
  }
]

pub returns : goal.returns
returns c = counted_all c.args.code.now c.loop-place.place c.loop-place.count (omega (arith, c.loop-place-test.false, c.len-place-end.ensures)) c.loop-place.invariant.counted
