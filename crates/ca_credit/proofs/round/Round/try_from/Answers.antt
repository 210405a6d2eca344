use Rattle.std.proofs.Common.{rules, ◌∙◌, ◌^◌, ◌<◌, ap, sym, subst, length}
use Rattle.ca_credit.specs.Defects.{Task, StandsIn}
use Rattle.ca_credit.proofs.TableLemmas.{credit_count_within}
use Rattle.ca_credit.proofs.RoundLemmas.{answer_here, open_left, tries_then, tries_same, aimed_some}
use Rattle.ca_credit.proofs.round.Round.try_from.Goals as goal

pub detecting_output-answer-requires : goal.detecting_output-answer-requires
detecting_output-answer-requires g c =
    subst (StandsIn (g.S.Simulator.task c.aim.new.self).chip) (sym c.aim.ensures.aimed_in)
    (subst (λ (t : Task). StandsIn t.chip ((g.S.Simulator.task c.args.sim.now).chip_of c.args.place)) (sym c.aim.ensures.task)
    c.aim.ensures.stands_in)

pub try_after-following-requires-clause-same : goal.try_after-following-requires-clause-same
try_after-following-requires-clause-same g c =
    let task = g.S.Simulator.task c.args.sim.now in
    let one = c.give-here.ensures.tries task c.args.pair.now (answer_here task (g.S.Simulator.aimed_in c.aim.new.self) c.args.pair.now
    (g.S.Simulator.bits c.aim.new.self) (g.S.Simulator.aimed c.aim.new.self) c.args.place c.detecting_output-answer.result
    c.aim.ensures.aimed_in (c.aim.ensures.bits ∙ c.requires.bits) c.aim.ensures.aimed c.detecting_output-answer.ensures) in
    one.as_many ∙ c.requires.same ∙ ap (λ t. length t.defects) (sym c.aim.ensures.task)

pub try_after-following-requires-clause-few : goal.try_after-following-requires-clause-few
try_after-following-requires-clause-few g c =
    let task = g.S.Simulator.task c.args.sim.now in
    let one = c.give-here.ensures.tries task c.args.pair.now (answer_here task (g.S.Simulator.aimed_in c.aim.new.self) c.args.pair.now
    (g.S.Simulator.bits c.aim.new.self) (g.S.Simulator.aimed c.aim.new.self) c.args.place c.detecting_output-answer.result
    c.aim.ensures.aimed_in (c.aim.ensures.bits ∙ c.requires.bits) c.aim.ensures.aimed c.detecting_output-answer.ensures) in
    subst (λ n. n < 2 ^ 32) (sym one.as_many) c.requires.few

pub try_after-following-requires-clause-aimed : goal.try_after-following-requires-clause-aimed
try_after-following-requires-clause-aimed g c =
    aimed_some (g.S.Simulator.task c.args.sim.now) c.args.place _ c.aim.ensures.aimed
    (subst (λ n. c.args.place < n) c.requires.same (open_left c.args.self.now c.args.place c.requires.stands c.requires.left).0)

pub overflow_add-result : goal.overflow_add-result
overflow_add-result g c =
    let task = g.S.Simulator.task c.args.sim.now in
    let one = c.give-here.ensures.tries task c.args.pair.now (answer_here task (g.S.Simulator.aimed_in c.aim.new.self) c.args.pair.now
    (g.S.Simulator.bits c.aim.new.self) (g.S.Simulator.aimed c.aim.new.self) c.args.place c.detecting_output-answer.result
    c.aim.ensures.aimed_in (c.aim.ensures.bits ∙ c.requires.bits) c.aim.ensures.aimed c.detecting_output-answer.ensures) in
    let within_new = credit_count_within c.try_after-following.new.self.verdicts.items in
    let following = c.try_after-following.ensures.tries.counted in
    let many = c.try_after-following.ensures.tries.as_many in
    let counted = one.counted in
    let as_many = one.as_many in
    let few = c.requires.few in
    search rules

pub returns-clause-tries : goal.returns-clause-tries
returns-clause-tries g c =
    let task = g.S.Simulator.task c.args.sim.now in
    let one = c.give-here.ensures.tries task c.args.pair.now (answer_here task (g.S.Simulator.aimed_in c.aim.new.self) c.args.pair.now
    (g.S.Simulator.bits c.aim.new.self) (g.S.Simulator.aimed c.aim.new.self) c.args.place c.detecting_output-answer.result
    c.aim.ensures.aimed_in (c.aim.ensures.bits ∙ c.requires.bits) c.aim.ensures.aimed c.detecting_output-answer.ensures) in
    tries_then task c.args.pair.now c.args.number c.give-here.result c.try_after-following.result c.args.self.now c.give-here.new.self
    c.try_after-following.new.self one
    (tries_same task (g.S.Simulator.task c.aim.new.self) c.args.pair.now c.args.number c.try_after-following.result c.give-here.new.self
    c.try_after-following.new.self c.aim.ensures.task c.try_after-following.ensures.tries)
