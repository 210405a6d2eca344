use Rattle.std.proofs.Common.{List, [], ◌∙◌, ap, subst}
use Rattle.std.proofs.lemmas.List.{get_or_default}
use Rattle.ca_net.specs.declared.trit.Trit.{Trit}
use Rattle.ca_code.specs.Filled.{trits_of}
use Rattle.ca_credit.specs.Defects.{Task}
use Rattle.ca_expected.specs.Expected.{AreGoodEnds}
use Rattle.ca_expected.proofs.PushLemmas.{row_more}
use Rattle.ca_expected.proofs.values.expected.Goals as goal

pub loop-place-preserved : goal.loop-place-preserved
loop-place-preserved g c =
    let task = c.load.ensures.task ∙ c.loop-place.invariant.0 in (
      task,
      c.load.ensures.aimed ∙ c.loop-place.invariant.1,
      row_more (g.S.Simulator.task c.args.sim.now).chip c.args.pairs.now c.loop-place.place c.in_ok-good_ends.field-0
          c.loop-place.rows c.push.new.self c.loop-place.invariant.2
          (subst (λ (bits : List Trit). AreGoodEnds (g.S.Simulator.task c.args.sim.now).chip bits c.in_ok-good_ends.field-0)
          (c.load.ensures.bits ∙ ap trits_of (c.index-pairs-place.is
          ∙ get_or_default c.args.pairs.now c.loop-place.place c.index-pairs-place.result [] c.loop-place-test.true))
          (subst (λ (of : Task). AreGoodEnds of.chip (g.S.Simulator.bits c.load.new.self) c.in_ok-good_ends.field-0) task c.in_ok-good_ends.ensures))
          c.in_ok-push.ensures.ok,
    )
