use Rattle.ca_view.specs.Linked.{place_in}
use Rattle.ca_every_vector.specs.code.Lanes.{AreLanesSpread}
use Rattle.ca_every_vector.proofs.lane_stays.flip.Given as goal

abbrev pub invariant-loop-output : goal.invariant-loop-output
invariant-loop-output l = AreLanesSpread l.chip.core (place_in l.chip.ranks) l.u l.values l.others l.changed.items l.touched
