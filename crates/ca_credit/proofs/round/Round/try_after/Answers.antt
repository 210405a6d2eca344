use Rattle.std.proofs.Common.{rules, ◌∙◌}
use Rattle.ca_credit.proofs.TableLemmas.{credit_count_within}
use Rattle.ca_credit.proofs.RoundLemmas.{tries_then, tries_same}
use Rattle.ca_credit.proofs.round.Round.try_after.Goals as goal

pub overflow_add-credited : goal.overflow_add-credited
overflow_add-credited g c =
    let within = credit_count_within c.try_alike-credited.new.self.verdicts.items in
    let turn = c.try_alike-credited.ensures.tries in
    let as_many = turn.as_many in
    let counted = turn.counted in
    let was = c.places.invariant.tries in
    let many = was.as_many in
    let before = was.counted in
    let few = c.requires.few in
    search rules

pub places-preserved : goal.places-preserved
places-preserved g c =
    let task = g.S.Simulator.task c.args.sim.now in
    let was = c.places.invariant in
    let turn = c.try_alike-credited.ensures in
    record {
      tries = tries_then task c.args.pair.now c.args.number c.places.credited c.try_alike-credited.result c.args.self.now c.places.self c.try_alike-credited.new.self was.tries
          (tries_same task (g.S.Simulator.task c.places.sim) c.args.pair.now c.args.number c.try_alike-credited.result c.places.self c.try_alike-credited.new.self was.task turn.tries);
      stands = turn.tries.stands was.stands;
      aimed_in = turn.aimed_in ∙ was.aimed_in;
      aimed = turn.aimed ∙ was.aimed;
      task = turn.task ∙ was.task;
      bits = turn.bits ∙ was.bits;
      aims = turn.aims ∙ was.aims;
    }
