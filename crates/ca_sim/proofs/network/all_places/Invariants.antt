use Rattle.ca_view.specs.Linked.{place_in}
use Rattle.ca_sim.specs.code.Marking.{HasPlacesTo}
use Rattle.ca_sim.proofs.network.all_places.Given as goal

abbrev pub invariant-loop-u : goal.invariant-loop-u
invariant-loop-u l = HasPlacesTo l.chip.core (place_in l.chip.ranks) l.u l.due
