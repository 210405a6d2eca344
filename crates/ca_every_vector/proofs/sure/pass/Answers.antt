use Rattle.ca_view.specs.Linked.{place_in}
use Rattle.ca_every_vector.proofs.SureLemmas.{sure_part}
use Rattle.ca_every_vector.proofs.sure.pass.Goals as goal

pub mark_outputs-requires-clause-outputs : goal.mark_outputs-requires-clause-outputs
mark_outputs-requires-clause-outputs c = λ formed output within.
    sure_part c.args.chip.now.core (place_in c.args.chip.now.ranks) c.linked.ensures.linked.is_chip formed c.args.w output c.requires.placed.known within
    (c.is_static.ensures c.if-not-is_static.false)
    (λ pin less. c.requires.sure formed _ (c.are_sure_pins.ensures c.if-not-are_sure_pins.false pin less))
