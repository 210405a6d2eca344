use Rattle.std.proofs.Common.{◌≡◌, subst, false, true, IsTrue, arith}
use Rattle.ca_every_vector.specs.code.Masks.{IsRowOut}
use Rattle.ca_every_vector.proofs.TableLemmas.{all_more, all_taken}
use Rattle.ca_every_vector.proofs.every_vector.are_all_out.Goals as goal
use Rattle.ca_every_vector.proofs.every_vector.are_all_out.Goals.{else-has-via-then-has+else-has-2, else-has-via-else-has}

pub loop-place-preserved : goal.loop-place-preserved
loop-place-preserved c = all_more (IsRowOut c.args.firsts c.args.lasts) c.args.rows.now c.loop-place.place c.get-row.result c.get-row.ensures
    (elim c.else-has.branch [
      | else-has-via-then-has+else-has-2 w ↦ λ first last. let e : false ≡ true = subst IsTrue w.if-has-2.false (w.has-then-has.ensures.1 last) in cc
      | else-has-via-else-has w ↦ λ first last. let e : false ≡ true = subst IsTrue w.if-has.false (c.has.ensures.1 first) in cc
    ]) c.loop-place.invariant

pub returns : goal.returns
returns c = λ is. all_taken (IsRowOut c.args.firsts c.args.lasts) c.args.rows.now c.loop-place.place
    (let e = c.len-place-end.ensures in let done = c.loop-place-test.false in omega arith) c.loop-place.invariant
