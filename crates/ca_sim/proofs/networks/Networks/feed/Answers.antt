use Rattle.std.proofs.Common.{◌∙◌}
use Rattle.std.specs.Prelude.{None}
use Rattle.ca_flat.specs.Chip.{Chip}
use Rattle.ca_view.specs.Linked.{place_in}
use Rattle.ca_view.specs.Places.{cell_number}
use Rattle.ca_sim.proofs.CountLemmas.{reader_due}
use Rattle.ca_sim.proofs.Loading.{changed_same, changed_length, set_both}
use Rattle.ca_sim.proofs.SimLemmas.{underway_fed}
use Rattle.ca_sim.proofs.networks.Networks.feed.Goals as goal

pub returns-clause-count : goal.returns-clause-count
returns-clause-count c =
    let core : Chip = c.args.chip.now.core in
    let next_is = set_both core c.args.self.now.bits c.set.new.self c.set-2.new.self c.args.input c.input_count.result c.args.first
    c.args.last c.input_count.ensures c.set.ensures c.set-2.ensures in
    changed_length core c.args.self.now.bits c.set-2.new.self c.args.input c.args.first c.args.last c.requires.input next_is ∙ c.requires.bits

pub returns-clause-good : goal.returns-clause-good
returns-clause-good c = λ under.
    let core : Chip = c.args.chip.now.core in
    let next_is = set_both core c.args.self.now.bits c.set.new.self c.set-2.new.self c.args.input c.input_count.result c.args.first
    c.args.last c.input_count.ensures c.set.ensures c.set-2.ensures in
    let same = changed_same core c.args.self.now.bits c.set-2.new.self c.args.input c.args.first c.args.last c.requires.input next_is in
    underway_fed core (place_in c.args.chip.now.ranks) (cell_number c.args.chip.now.chip) c.linked.ensures.linked c.linked.ensures.pinned None c.args.input c.requires.input
    c.args.self.now.bits c.set-2.new.self c.args.self.now.good c.feed.new.self under same c.feed.ensures.fed c.feed.ensures.ready

pub returns-clause-due : goal.returns-clause-due
returns-clause-due c = λ u reads differ under.
    let core : Chip = c.args.chip.now.core in
    let next_is = set_both core c.args.self.now.bits c.set.new.self c.set-2.new.self c.args.input c.input_count.result c.args.first
    c.args.last c.input_count.ensures c.set.ensures c.set-2.ensures in
    reader_due core (place_in c.args.chip.now.ranks) (cell_number c.args.chip.now.chip) c.linked.ensures.linked
    c.linked.ensures.pinned c.args.input c.requires.input c.args.self.now.bits c.set-2.new.self c.args.first c.args.last
    c.args.self.now.good c.feed.new.self u c.requires.bits next_is under c.feed.ensures.fed reads differ
