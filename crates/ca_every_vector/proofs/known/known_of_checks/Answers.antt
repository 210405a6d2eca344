use Rattle.ca_view.specs.Linked.{place_in}
use Rattle.ca_view.specs.Places.{cell_number}
use Rattle.ca_every_vector.proofs.RegionLemmas as lemmas
use Rattle.ca_every_vector.proofs.known.known_of_checks.Goals as goal

pub returns : goal.returns
returns c = λ pair for. lemmas.known_of_checks c.args.chip.now.core (place_in c.args.chip.now.ranks) (cell_number c.args.chip.now.chip) c.linked.ensures.linked
    c.linked.ensures.pinned c.args.inputs.now c.args.parts.now c.args.number c.args.values.now c.requires.inputs.known c.requires.within c.requires.digits c.requires.given pair for
