use Rattle.std.proofs.Common.{◌≡◌, ◌<◌, ◌∷◌, ◌++◌, [], arith, ap, length, length-append, subst, sym, ◌∙◌, Some}
use Rattle.std.specs.Prelude.{slice_get}
use Rattle.std.proofs.lemmas.Option.{slice_get-get_or}
use Rattle.ca_credit.specs.Defects.{Task}
use Rattle.ca_credit.specs.Table.{CreditsIn}
use Rattle.ca_generate.proofs.TurnLemmas.{caught_up, stands_whole}
use Rattle.ca_generate.proofs.work.Work.catch_up.Goals as goal

pub loop-number-preserved : goal.loop-number-preserved
loop-number-preserved g c =
    let task = g.B.Simulator.task c.args.bench.now in
    let work = c.loop-number.work in
    let was = c.loop-number.invariant in
    let stands = was.stands.stands in
    let number = c.loop-number.number in
    let pair = c.index-as_slice-number.result in
    let slice : c.as_slice-in-loop-number.result.now ≡ work.pairs = c.as_slice-in-loop-number.ensures in
    let lt : number < length c.as_slice-in-loop-number.result.now =
    (let below = c.loop-number-test.true in let end = c.len-number-end.ensures in let here = ap length slice in let same = ap length was.same in omega arith) in
    let at : slice_get work.pairs number ≡ Some pair = sym (ap (λ list. slice_get list number) slice)
    ∙ slice_get-get_or c.as_slice-in-loop-number.result.now number pair lt ∙ ap Some (sym c.index-as_slice-number.is) in
    let count : c.defect_count-count.result ≡ length work.credits = c.defect_count-count.ensures ∙ sym stands.as_many in
    let credits : CreditsIn task pair (length was.stands.done) work.edge (length work.credits) work.credits c.credit_in.new.self =
    subst (λ n. CreditsIn task pair n work.edge (length work.credits) work.credits c.credit_in.new.self) (sym was.stands.count_is)
    (subst (λ n. CreditsIn task pair number work.edge n work.credits c.credit_in.new.self) count
    (subst (λ (t : Task). CreditsIn t pair number work.edge c.defect_count-count.result work.credits c.credit_in.new.self) was.task c.credit_in.ensures.credited)) in
    record {
      stands = record {
        done = was.stands.done ++ pair ∷ [];
        count_is = let l = length-append was.stands.done (pair ∷ []) in let so_far = was.stands.count_is in omega arith;
        stands = caught_up task c.args.turns work.edge was.stands.done work.credits c.credit_in.new.self work.pairs work.aims pair stands
            (subst (λ n. slice_get work.pairs n ≡ Some pair) (sym was.stands.count_is) at) credits;
      };
      same = was.same;
      task = c.credit_in.ensures.task ∙ was.task;
    }

pub returns-clause-stands : goal.returns-clause-stands
returns-clause-stands g c =
    let was = c.loop-number.invariant in
    let work = c.loop-number.work in
    stands_whole (g.B.Simulator.task c.args.bench.now) c.args.turns work.edge was.stands.done work.credits work.pairs work.aims was.stands.stands
    (let end = c.loop-number-test.false in let all = c.len-number-end.ensures in let same = ap length was.same in let parts = ap length was.stands.stands.pairs_are in
    let l = length-append was.stands.done was.stands.stands.rest in let count = was.stands.count_is in omega arith)
