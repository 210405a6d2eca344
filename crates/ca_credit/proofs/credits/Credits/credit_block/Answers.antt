use Rattle.std.proofs.Common.{rules, arith, ◌<◌, ◌+◌, ◌∙◌, length, refl, sym, ap, subst, Some, []}
use Rattle.std.proofs.lemmas.Option.{slice_get-get_or}
use Rattle.ca_code.specs.Filled.{trits_of}
use Rattle.ca_credit.specs.Table.{Begins}
use Rattle.ca_credit.specs.Aims.{AimsOverBlock}
use Rattle.ca_credit.proofs.AimLemmas.{block_aims_begin, block_aims_more, bits_after_more, aimed_after_more}
use Rattle.ca_credit.proofs.DetectionLemmas.{get_or-other}
use Rattle.ca_credit.proofs.TableLemmas.{credit_count_within, block_more}
use Rattle.ca_credit.proofs.credits.Credits.credit_block.Goals as goal

pub loop-k-init : goal.loop-k-init
loop-k-init g c = record {
  credits = Begins;
  counted = omega arith;
  as_many = refl;
  task = refl;
  bits = refl;
  aimed = refl;
  aims = block_aims_begin (g.S.Simulator.task c.args.sim.now) c.args.pairs.now c.args.from c.args.self.now
      (g.S.Simulator.aims c.args.sim.now);
}

pub overflow_add-credited : goal.overflow_add-credited
overflow_add-credited g c =
    let within = credit_count_within c.credit_pair-credited.new.self in
    let as_many = c.credit_pair-credited.ensures.credited.as_many in
    let counted = c.credit_pair-credited.ensures.counted in
    let was = c.loop-k.invariant in
    let few = c.requires.few in
    search rules

pub loop-k-preserved : goal.loop-k-preserved
loop-k-preserved g c =
    let was = c.loop-k.invariant in
    let turn = c.credit_pair-credited.ensures in
    let lt : c.args.from + c.loop-k.k < length c.args.pairs.now = search rules in
    let at = slice_get-get_or c.args.pairs.now (c.args.from + c.loop-k.k) c.index-pairs-from.result lt
    ∙ ap Some (sym c.index-pairs-from.is) in
    let old = g.S.Simulator.task c.args.sim.now in
    let kept = c.keep_pairs.ensures in
    let same = g.S.Simulator.task c.keep_pairs.new.sim in
    record {
      credits = block_more old same c.args.pairs.now c.args.from c.loop-k.k _ _ c.args.self.now
          c.loop-k.self c.credit_pair-credited.new.self (kept.task ∙ was.task) refl was.credits at turn.credited;
      counted = let before = was.counted in let now = turn.counted in omega arith;
      as_many = turn.credited.as_many ∙ was.as_many;
      task = turn.task ∙ kept.task ∙ was.task;
      bits = bits_after_more c.args.pairs.now c.args.from c.loop-k.k _ _ (turn.bits ∙ ap trits_of (c.index-pairs-from.is
          ∙ get_or-other c.args.pairs.now (c.args.from + c.loop-k.k) c.index-pairs-from.result [] lt));
      aimed = aimed_after_more c.loop-k.k _ _ turn.aimed;
      aims = block_aims_more old same c.args.pairs.now c.args.from c.loop-k.k _ _ c.args.self.now
          c.loop-k.self c.credit_pair-credited.new.self _ _ _ (kept.task ∙ was.task) refl
          (subst (λ aims. AimsOverBlock old c.args.pairs.now c.args.from c.args.self.now c.loop-k.k c.loop-k.self
          (g.S.Simulator.aims c.args.sim.now) aims) (sym kept.aims) was.aims) at turn.credited turn.aims;
    }
