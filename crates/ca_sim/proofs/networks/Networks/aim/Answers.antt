use Rattle.ca_view.specs.Linked.{place_in}
use Rattle.ca_sim.proofs.SimLemmas.{at_rest_aimed}
use Rattle.ca_sim.proofs.networks.Networks.aim.Goals as goal

pub returns-clause-rest : goal.returns-clause-rest
returns-clause-rest c = record {
  bits = c.requires.rest.bits;
  good = c.requires.rest.good;
  faulty = at_rest_aimed c.args.chip.now.core (place_in c.args.chip.now.ranks) c.args.old c.args.new c.args.self.now.bits
      c.args.self.now.faulty c.turn.new.self c.turn-2.new.self c.settle.new.self c.requires.rest.faulty c.turn.ensures c.turn-2.ensures c.settle.ensures.settled;
}
