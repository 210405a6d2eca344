use Rattle.ca_view.specs.Linked.{place_in}
use Rattle.ca_every_vector.specs.code.Spread.{AreSpread}
use Rattle.ca_every_vector.proofs.stays.spread.Given as goal

abbrev pub invariant-loop-from : goal.invariant-loop-from
invariant-loop-from l = AreSpread l.chip.core (place_in l.chip.ranks) l.u l.values l.others l.changed.items l.touched.items
