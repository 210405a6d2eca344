use Rattle.std.proofs.Common.{subst}
use Rattle.ca_flat.specs.Chip.{Chip}
use Rattle.ca_view.specs.Linked.{place_in}
use Rattle.ca_view.specs.Places.{cell_number}
use Rattle.ca_sim.specs.declared.network.Network.{Network}
use Rattle.ca_sim.specs.Network.{IsFedAt}
use Rattle.ca_sim.proofs.Loading.{changed_same}
use Rattle.ca_sim.proofs.SimLemmas.{underway_fed}
use Rattle.ca_sim.proofs.networks.Networks.change.Goals as goal

pub returns-clause-underway : goal.returns-clause-underway
returns-clause-underway c = λ aim under.
    let core : Chip = c.args.chip.now.core in
    let same = changed_same core c.args.self.now.bits c.feed.new.self.bits c.args.input c.args.first c.args.last c.requires.input c.feed.ensures.bits in
    record {
      bits = c.feed.ensures.count;
      good = c.feed.ensures.good under.good;
      faulty = underway_fed core (place_in c.args.chip.now.ranks) (cell_number c.args.chip.now.chip) c.linked.ensures.linked c.linked.ensures.pinned aim c.args.input
          c.requires.input c.args.self.now.bits c.feed.new.self.bits c.args.self.now.faulty c.feed-2.new.self under.faulty same
          (subst (λ (f : Network). IsFedAt c.args.chip.now.core (place_in c.args.chip.now.ranks) c.args.input c.feed.new.self.bits f c.feed-2.new.self) c.feed.ensures.faulty c.feed-2.ensures.fed)
          c.feed-2.ensures.ready;
    }
