use Rattle.std.proofs.Common.{[], ◌∙◌, ap, subst, sym, arith, Some}
use Rattle.std.proofs.lemmas.List.{get_or_default}
use Rattle.std.proofs.lemmas.Option.{slice_get-get_or}
use Rattle.ca_credit.specs.Defects.{Task}
use Rattle.ca_credit.specs.Table.{CreditsPair}
use Rattle.ca_expected.specs.Expected.{AreGoodEnds}
use Rattle.ca_expected.proofs.WrongLemmas.{row_right_by}
use Rattle.ca_grade.proofs.GradeLemmas.{after_pair}
use Rattle.ca_grade.proofs.judged.credit_judged.Goals as goal

pub loop-place-preserved : goal.loop-place-preserved
loop-place-preserved g c =
    let task = g.B.Simulator.task c.args.bench.now in
    let was = c.loop-place.invariant in
    let turn = c.credit_pair.ensures in
    let kept = c.keep_pairs.ensures in
    let before = kept.task ∙ was.task in
    let same = turn.task ∙ before in
    let at = slice_get-get_or c.args.pairs.now c.loop-place.place c.index-pairs-place.result c.loop-place-test.true
    ∙ ap Some (sym c.index-pairs-place.is) in
    let pair = c.index-pairs-place.is
    ∙ get_or_default c.args.pairs.now c.loop-place.place c.index-pairs-place.result [] c.loop-place-test.true in
    let row = c.index-expected-place.is
    ∙ get_or_default c.args.expected.now c.loop-place.place c.index-expected-place.result []
    (let below = c.loop-place-test.true in let count = c.requires.counted in omega (arith, below, count)) in
    record {
      task = same;
      after = after_pair task c.args.pairs.now c.loop-place.place c.index-pairs-place.result c.loop-place.credits c.credit_pair.new.self at was.after
          (subst (λ (of : Task). CreditsPair of c.index-pairs-place.result c.loop-place.place c.loop-place.credits c.credit_pair.new.self) before turn.credited);
      right = row_right_by task.chip c.args.pairs.now c.args.expected.now c.loop-place.place c.index-pairs-place.result
          (g.B.Simulator.bits c.credit_pair.new.sim) c.index-expected-place.result was.right turn.bits pair row
          (subst (λ (of : Task). AreGoodEnds of.chip (g.B.Simulator.bits c.credit_pair.new.sim) c.index-expected-place.result) same
          (c.in_default.ensures {u = tt}));
    }
