use Rattle.std.proofs.Common.{refl}
use Rattle.std.specs.Prelude.{None}
use Rattle.ca_view.specs.Linked.{place_in}
use Rattle.ca_sim.proofs.SimLemmas.{at_rest, twin_at_rest, twin_given}
use Rattle.ca_sim.proofs.CountLemmas.{counted_still}
use Rattle.ca_sim.proofs.networks.Networks.settle.Goals as goal

pub settle-requires-2-clause-twin : goal.settle-requires-2-clause-twin
settle-requires-2-clause-twin c = λ good is.
    let core = c.args.chip.now.core in
    let place_of = place_in c.args.chip.now.ranks in
    let bits = c.args.self.now.bits in
    twin_given core _ good is (twin_at_rest core place_of bits c.settle.new.self
    (at_rest core place_of None bits c.args.self.now.good c.settle.new.self c.requires.underway.good c.settle.ensures.settled))

pub returns-clause-rest : goal.returns-clause-rest
returns-clause-rest c =
    let core = c.args.chip.now.core in
    let place_of = place_in c.args.chip.now.ranks in
    let bits = c.args.self.now.bits in
    record {
      bits = c.requires.underway.bits;
      good = at_rest core place_of None bits c.args.self.now.good c.settle.new.self c.requires.underway.good c.settle.ensures.settled;
      faulty = at_rest core place_of c.args.aim bits c.args.self.now.faulty c.settle-2.new.self c.requires.underway.faulty c.settle-2.ensures.settled;
    }

pub returns-clause-count : goal.returns-clause-count
returns-clause-count c = λ place has. counted_still _ _ _ (c.settle.ensures.count refl place has) c.settle-2.ensures.grows
