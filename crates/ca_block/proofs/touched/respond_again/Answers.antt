use Rattle.std.proofs.Common.{◌∙◌, length, take, sym, ap, subst}
use Rattle.ca_planes.specs.Trits.{HasNodes}
use Rattle.ca_block.proofs.StateLemmas.{is_state}
use Rattle.ca_block.proofs.GroupLemmas.{some_chosen, responses_again}
use Rattle.ca_block.proofs.TouchedLemmas.{chosen_as, keeps_as, put_back}
use Rattle.ca_block.proofs.touched.respond_again.Goals as goal

pub respond-requires-clause-devices : goal.respond-requires-clause-devices
respond-requires-clause-devices g c =
    let groups = c.args.groups.now in
    let touched = c.mark.new.touched in
    let back = c.deref-4.ensures.value
    ∙ put_back c.choose-count.new.chosen touched.chosen.items touched.chosen.len (sym c.deref_mut.ensures.len ∙ sym c.choose-count.auto.chosen) in
    some_chosen (g.N.Network.circuit c.args.net.now) groups.labels.items groups.homes.items c.requires.groups.homes touched.marks.items
    (take c.choose-count.result c.deref-4.result.now)
    (chosen_as (c.deref.ensures.value ∙ c.requires.groups.devices) c.deref-2.ensures.value c.deref-3.ensures.value (ap (take c.choose-count.result) (sym back))
    c.choose-count.ensures.chosen)

pub returns-clause-responses : goal.returns-clause-responses
returns-clause-responses g c lane low =
    let net = g.N.Network.circuit c.args.net.now in
    let groups = c.args.groups.now in
    let touched = c.mark.new.touched in
    let back = c.deref-4.ensures.value
    ∙ put_back c.choose-count.new.chosen touched.chosen.items touched.chosen.len (sym c.deref_mut.ensures.len ∙ sym c.choose-count.auto.chosen) in
    responses_again net groups.labels.items groups.homes.items c.requires.groups.homes c.node_count-nodes.ensures.well_formed touched.marks.items
    (take c.choose-count.result c.deref-4.result.now) c.args.before.now c.args.known.now c.args.from.now c.respond.new.out c.keep.new.out c.mark.ensures.marked
    (chosen_as (c.deref.ensures.value ∙ c.requires.groups.devices) c.deref-2.ensures.value c.deref-3.ensures.value (ap (take c.choose-count.result) (sym back))
    c.choose-count.ensures.chosen)
    c.requires.responses c.respond.ensures.responses
    (keeps_as c.args.known.now c.respond.new.out c.keep.new.out (ap length c.deref-5.ensures.value ∙ c.requires.groups.room.label_count) c.deref-5.ensures.value
    c.deref-6.ensures.value c.keep.ensures.keeps)
    lane low (is_state (length net.nodes) c.keep.new.out lane
    (subst (λ k. HasNodes k c.keep.new.out) (ap length c.deref-5.ensures.value ∙ c.requires.groups.room.label_count) c.keep.ensures.out))
