use Rattle.std.proofs.Common.{List, [], ◌∙◌, ap, subst, arith, get_or}
use Rattle.std.proofs.lemmas.List.{get_or_default}
use Rattle.ca_net.specs.declared.trit.Trit.{Trit}
use Rattle.ca_code.specs.Filled.{trits_of}
use Rattle.ca_credit.specs.Defects.{Task}
use Rattle.ca_expected.specs.Expected.{AreGoodEnds}
use Rattle.ca_expected.proofs.WrongLemmas.{row_right}
use Rattle.ca_expected.proofs.wrong.first_wrong.Goals as goal

pub loop-place-preserved : goal.loop-place-preserved
loop-place-preserved g c =
    let chip = (g.S.Simulator.task c.args.sim.now).chip in
    let same = c.load.ensures.task ∙ c.loop-place.invariant.task in
    let bits = c.load.ensures.bits ∙ ap trits_of (c.index-pairs-place.is
    ∙ get_or_default c.args.pairs.now c.loop-place.place c.index-pairs-place.result [] c.loop-place-test.true) in
    let row = c.index-expected-place.is
    ∙ get_or_default c.args.expected.now c.loop-place.place c.index-expected-place.result []
    (let below = c.loop-place-test.true in let count = c.requires.counted in omega (arith, below, count)) in
    record {
      task = same;
      aimed = c.load.ensures.aimed ∙ c.loop-place.invariant.aimed;
      right = row_right chip c.args.pairs.now c.args.expected.now c.loop-place.place c.loop-place.invariant.right
          (subst (λ (values : List Trit). AreGoodEnds chip (trits_of (get_or c.args.pairs.now c.loop-place.place [])) values) row
          (subst (λ (set : List Trit). AreGoodEnds chip set c.index-expected-place.result) bits
          (subst (λ (of : Task). AreGoodEnds of.chip (g.S.Simulator.bits c.load.new.self) c.index-expected-place.result) same
          (c.in_default.ensures {u = tt}))));
    }
