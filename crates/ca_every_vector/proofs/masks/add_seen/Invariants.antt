use Rattle.std.proofs.Common.{◌≡◌}
use Rattle.ca_view.specs.Linked.{place_in}
use Rattle.ca_every_vector.specs.code.Masks.{AreMore, HaveAllSeen}
use Rattle.ca_every_vector.proofs.masks.add_seen.Given as goal

abbrev pub invariant-loop-u : goal.invariant-loop-u
invariant-loop-u l = record {
  seen : HaveAllSeen l.chip.core (place_in l.chip.ranks) l.values l.u l.masks;
  more : AreMore l.fn.masks l.masks;
  kept : l.sweep ≡ l.fn.sweep;
}
