use Rattle.std.proofs.Common.{◌<◌, ◌∙◌, true, length, arith}
use Rattle.std.proofs.lemmas.List.{length-set}
use Rattle.ca_diag.proofs.FailingLemmas.{mark_more, all_marked, of_get}
use Rattle.ca_diag.proofs.failing.mark.Goals as goal

pub loop-k-preserved : goal.loop-k-preserved
loop-k-preserved c = record {
  room = length-set c.loop-k.marks.items c.get.result true ∙ c.loop-k.invariant.room;
  marked = mark_more c.loop-k.k c.get.result c.args.outputs.now c.loop-k.marks.items c.get.ensures
      (let below = of_get (λ output. output < length c.args.marks.now.items) c.args.outputs.now c.loop-k.k c.get.result c.requires c.get.ensures in
      let room = c.loop-k.invariant.room in omega (arith, below, room))
      c.loop-k.invariant.marked;
}

pub returns-clause-marked : goal.returns-clause-marked
returns-clause-marked c =
    all_marked c.loop-k.k c.args.outputs.now c.loop-k.marks.items
    (let past = c.loop-k-test.false in let count = c.len-k-end.ensures in omega (arith, past, count)) c.loop-k.invariant.marked
