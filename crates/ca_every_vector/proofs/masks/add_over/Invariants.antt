use Rattle.ca_view.specs.Linked.{place_in}
use Rattle.ca_every_vector.specs.code.Masks.{AreMore, HaveAllOver}
use Rattle.ca_every_vector.proofs.masks.add_over.Given as goal

abbrev pub invariant-loop-u : goal.invariant-loop-u
invariant-loop-u l = record {
  over : HaveAllOver l.chip.core (place_in l.chip.ranks) l.values l.u l.masks;
  more : AreMore l.fn.masks l.masks;
}
