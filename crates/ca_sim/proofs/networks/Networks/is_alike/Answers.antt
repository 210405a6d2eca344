use Rattle.ca_view.specs.Linked.{place_in}
use Rattle.ca_sim.proofs.SimLemmas.{at_rest_alike}
use Rattle.ca_sim.proofs.networks.Networks.is_alike.Goals as goal

pub returns-clause-rest : goal.returns-clause-rest
returns-clause-rest c alike = record {
  bits = c.requires.rest.bits;
  good = c.requires.rest.good;
  faulty = at_rest_alike c.args.chip.now.core (place_in c.args.chip.now.ranks) c.args.old c.args.new
      c.args.self.now.bits c.args.self.now.faulty c.if-old-new.false (c.is_current.ensures.current alike) c.requires.rest.faulty;
}
