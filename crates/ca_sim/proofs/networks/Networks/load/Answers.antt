use Rattle.std.proofs.Common.{length, ◌∙◌, ap, subst, sym, refl}
use Rattle.std.specs.Prelude.{None}
use Rattle.ca_view.specs.Linked.{place_in}
use Rattle.ca_sim.specs.declared.network.Network.{Network}
use Rattle.ca_sim.specs.Network.{IsAtRest}
use Rattle.ca_sim.specs.code.Network.{IsUnderway}
use Rattle.ca_sim.proofs.SimLemmas.{at_rest, twin_at_rest, twin_given, followed_good, followed_ready, followed_faulty}
use Rattle.ca_sim.proofs.networks.Networks.load.Goals as goal

pub feed_all-requires-clause-ready : goal.feed_all-requires-clause-ready
feed_all-requires-clause-ready g c = followed_ready c.args.chip.now.core (place_in c.args.chip.now.ranks) None c.args.self.now.bits c.args.from.now.bits
    c.args.from.now.waves c.args.self.now.good _ c.requires.rest.good c.requires.from.simulated c.take_over.ensures refl

pub settle-requires-clause-ready : goal.settle-requires-clause-ready
settle-requires-clause-ready g c =
    let core = c.args.chip.now.core in
    let place_of = place_in c.args.chip.now.ranks in
    let bits = c.feed_all.new.self.bits in
    let taken : Network = record { waves = c.take_over.new.self; due = c.args.self.now.good.due } in
    let fed : IsUnderway core place_of None bits c.feed_all.new.self.good = c.feed_all.ensures.good
    (subst (λ list. IsUnderway core place_of None list taken) (sym c.copy.ensures)
    (followed_good core place_of c.args.self.now.bits c.args.from.now.bits c.args.from.now.waves c.args.self.now.good taken c.requires.rest.good
    c.requires.from.simulated c.take_over.ensures refl)) in
    fed.ready

pub turn-requires-clause-ready : goal.turn-requires-clause-ready
turn-requires-clause-ready g c =
    let core = c.args.chip.now.core in
    let place_of = place_in c.args.chip.now.ranks in
    let bits = c.feed_all.new.self.bits in
    let taken : Network = record { waves = c.take_over.new.self; due = c.args.self.now.good.due } in
    let fed : IsUnderway core place_of None bits c.feed_all.new.self.good = c.feed_all.ensures.good
    (subst (λ list. IsUnderway core place_of None list taken) (sym c.copy.ensures)
    (followed_good core place_of c.args.self.now.bits c.args.from.now.bits c.args.from.now.waves c.args.self.now.good taken c.requires.rest.good
    c.requires.from.simulated c.take_over.ensures refl)) in
    let good : IsAtRest core place_of None bits c.settle.new.self =
    at_rest core place_of None bits c.feed_all.new.self.good c.settle.new.self fed c.settle.ensures.settled in
    followed_ready core place_of c.args.aim c.args.self.now.bits bits c.settle.new.self.waves c.args.self.now.faulty _ c.requires.rest.faulty good.simulated
    c.take_over-2.ensures (ap (λ (n : Network). n.due) c.feed_all.ensures.faulty)

pub settle-requires-2-clause-twin : goal.settle-requires-2-clause-twin
settle-requires-2-clause-twin g c = λ given is.
    let core = c.args.chip.now.core in
    let place_of = place_in c.args.chip.now.ranks in
    let bits = c.feed_all.new.self.bits in
    let taken : Network = record { waves = c.take_over.new.self; due = c.args.self.now.good.due } in
    let fed : IsUnderway core place_of None bits c.feed_all.new.self.good = c.feed_all.ensures.good
    (subst (λ list. IsUnderway core place_of None list taken) (sym c.copy.ensures)
    (followed_good core place_of c.args.self.now.bits c.args.from.now.bits c.args.from.now.waves c.args.self.now.good taken c.requires.rest.good
    c.requires.from.simulated c.take_over.ensures refl)) in
    let good : IsAtRest core place_of None bits c.settle.new.self =
    at_rest core place_of None bits c.feed_all.new.self.good c.settle.new.self fed c.settle.ensures.settled in
    twin_given core _ given is (twin_at_rest core place_of bits c.settle.new.self good)

pub returns-clause-rest : goal.returns-clause-rest
returns-clause-rest g c =
    let core = c.args.chip.now.core in
    let place_of = place_in c.args.chip.now.ranks in
    let bits = c.feed_all.new.self.bits in
    let taken : Network = record { waves = c.take_over.new.self; due = c.args.self.now.good.due } in
    let fed : IsUnderway core place_of None bits c.feed_all.new.self.good = c.feed_all.ensures.good
    (subst (λ list. IsUnderway core place_of None list taken) (sym c.copy.ensures)
    (followed_good core place_of c.args.self.now.bits c.args.from.now.bits c.args.from.now.waves c.args.self.now.good taken c.requires.rest.good
    c.requires.from.simulated c.take_over.ensures refl)) in
    let good : IsAtRest core place_of None bits c.settle.new.self =
    at_rest core place_of None bits c.feed_all.new.self.good c.settle.new.self fed c.settle.ensures.settled in
    record {
      bits = ap length c.feed_all.ensures.bits ∙ c.requires.count;
      good = good;
      faulty = at_rest core place_of c.args.aim bits c.turn.new.self c.settle-2.new.self
          (followed_faulty core place_of c.args.aim bits c.settle.new.self.waves _ c.turn.new.self good.simulated c.take_over-2.ensures c.turn.ensures)
          c.settle-2.ensures.settled;
    }
