use Rattle.std.proofs.Common.{◌∙◌}
use Rattle.ca_net.specs.declared.trit.Trit.TheVariants.{Zero}
use Rattle.ca_view.specs.Linked.{place_in}
use Rattle.ca_view.specs.Places.{cell_number}
use Rattle.ca_view.specs.Constants.{constant_of}
use Rattle.ca_every_vector.proofs.SureLemmas.{sure_constant, sure_put}
use Rattle.ca_every_vector.proofs.sure.mark_constant.Goals as goal

pub returns-clause-sure : goal.returns-clause-sure
returns-clause-sure c =
    let core = c.args.chip.now.core in
    let net = c.constant-net.result.net in
    sure_put c.args.chip.now.core c.args.values.now c.set.new.self c.constant-net.result.net Zero c.requires.sure
    (λ formed. sure_constant core (place_in c.args.chip.now.ranks) (cell_number c.args.chip.now.chip) c.linked.ensures.linked c.linked.ensures.pinned formed c.args.k
    (constant_of c.constant-net.result) c.constant-net.ensures
    (λ e. c.is_definite.ensures c.if-not-is_definite.false (c.at.ensures ∙ c.requires.fixed.each net ∙ e)))
    c.set.ensures
