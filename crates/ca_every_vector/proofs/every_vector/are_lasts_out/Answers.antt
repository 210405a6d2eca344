use Rattle.std.proofs.Common.{◌≡◌, subst, false, true, IsTrue, arith}
use Rattle.ca_every_vector.specs.code.Inside.{IsLastOut}
use Rattle.ca_every_vector.proofs.TableLemmas.{all_more, all_taken}
use Rattle.ca_every_vector.proofs.every_vector.are_lasts_out.Goals as goal

pub loop-place-preserved : goal.loop-place-preserved
loop-place-preserved c = all_more (IsLastOut c.args.lasts) c.args.rows.now c.loop-place.place c.get.result c.get.ensures
    (λ last. let e : false ≡ true = subst IsTrue c.if-has.false (c.has.ensures.1 last) in cc) c.loop-place.invariant

pub returns : goal.returns
returns c = λ is. all_taken (IsLastOut c.args.lasts) c.args.rows.now c.loop-place.place
    (let e = c.len-place-end.ensures in let done = c.loop-place-test.false in omega arith) c.loop-place.invariant
