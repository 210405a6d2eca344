use Rattle.std.proofs.Common.{◌≡◌, length}
use Rattle.ca_flat.specs.Chip.{count_of}
use Rattle.ca_view.specs.Linked.{place_in}
use Rattle.ca_every_vector.specs.code.Masks.{HaveLasts}
use Rattle.ca_every_vector.proofs.find.find_lasts.Given as goal

abbrev pub invariant-loop-number : goal.invariant-loop-number
invariant-loop-number l = record {
  sim : l.sim.seen.chip ≡ l.chip.core;
  sweep : l.sweep.chip ≡ l.chip.core;
  places : l.sweep.places ≡ l.chip.ranks;
  nets : length l.values ≡ length l.chip.core.nets;
  room : length l.masks ≡ count_of l.chip.core;
  lasts : HaveLasts l.chip.core (place_in l.chip.ranks) l.number l.masks;
}
