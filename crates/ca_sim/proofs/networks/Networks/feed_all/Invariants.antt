use Rattle.std.specs.Prelude.{◌≡◌, length, None}
use Rattle.ca_flat.specs.Pair.{bit_count}
use Rattle.ca_view.specs.Linked.{place_in}
use Rattle.ca_sim.specs.Network.{IsReady}
use Rattle.ca_sim.specs.code.Network.{IsUnderway}
use Rattle.ca_sim.proofs.Loading.{IsLoadedTo}
use Rattle.ca_sim.proofs.networks.Networks.feed_all.Given as goal

abbrev pub invariant-loop-input : goal.invariant-loop-input
invariant-loop-input g l = record {
  loaded : IsLoadedTo l.chip.core (g.B.Bits.bits l.bits) l.self.bits l.input;
  count : length l.self.bits ≡ bit_count l.chip.core;
  ready : IsReady l.chip.core (place_in l.chip.ranks) l.self.good;
  good : IsUnderway l.chip.core (place_in l.chip.ranks) None l.fn.self.bits l.fn.self.good
      → IsUnderway l.chip.core (place_in l.chip.ranks) None l.self.bits l.self.good;
  faulty : l.self.faulty ≡ l.fn.self.faulty;
}
