use Rattle.ca_view.specs.Linked.{place_in}
use Rattle.ca_view.specs.Places.{cell_number}
use Rattle.ca_sim.proofs.Beginning.{begins}
use Rattle.ca_sim.proofs.network.Network.reserve.Goals as goal

pub returns : goal.returns
returns c =
    begins c.args.chip.now.core (place_in c.args.chip.now.ranks) (cell_number c.args.chip.now.chip)
    c.linked.ensures.linked c.linked.ensures.pinned c.in_ok-constant_waves.field-0 c.in_ok-constant_waves.ensures
    c.in_ok-all_places.field-0 c.in_ok-all_places.ensures
