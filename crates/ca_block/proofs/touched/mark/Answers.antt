use Rattle.std.proofs.Common.{◌∙◌, length, sym, ap, subst}
use Rattle.ca_block.specs.code.Touched.{AreChanged, AreNodesMarked, AreDevicesMarked}
use Rattle.ca_block.proofs.GroupLemmas.{are_marked}
use Rattle.ca_block.proofs.TouchedLemmas.{put_back_marks}
use Rattle.ca_block.proofs.touched.mark.Goals as goal

pub returns-clause-marked : goal.returns-clause-marked
returns-clause-marked g c =
    let net = g.N.Network.circuit c.args.net.now in
    let groups = c.args.groups.now in
    let touched = c.args.touched.now in
    let changed = c.find_changed.new.changed in
    let marks = c.mark_labels.new.marks in
    let devices = c.deref.result.now in
    let changed_is = c.deref-4.ensures.value
    ∙ put_back_marks changed touched.changed.items touched.changed.len (sym c.deref_mut.ensures.len ∙ sym c.find_changed.auto.changed) in
    rw (put_back_marks marks touched.marks.items touched.marks.len (sym c.deref_mut-2.ensures.len ∙ sym c.mark_labels.auto.marks))
    (are_marked net c.node_count-nodes.ensures.well_formed groups.labels.items groups.homes.items devices c.args.state.now c.args.other.now changed marks
    (c.deref.ensures.value ∙ c.requires.groups.devices)
    (subst (λ k. AreChanged k c.args.state.now c.args.other.now changed)
    (c.find_changed.auto.changed ∙ ap length c.deref_mut.ensures.value ∙ c.requires.room.changed) c.find_changed.ensures)
    (subst (λ xs. AreNodesMarked (length net.nodes) groups.labels.items xs marks) changed_is
    (subst (λ xs. AreNodesMarked (length net.nodes) xs c.deref-4.result.now marks) c.deref-2.ensures.value
    (subst (λ k. AreNodesMarked k c.deref-2.result.now c.deref-4.result.now marks) (ap length c.deref-2.ensures.value ∙ c.requires.groups.room.label_count)
    c.mark_labels.ensures.nodes)))
    (subst (λ xs. AreDevicesMarked (length devices) devices groups.homes.items xs marks) changed_is
    (subst (λ xs. AreDevicesMarked (length devices) devices xs c.deref-4.result.now marks) c.deref-3.ensures.value c.mark_labels.ensures.devices)))
