use Rattle.std.proofs.Common.{◌≡◌, ℕ, List, true, length}
use Rattle.ca_net.specs.declared.trit.Trit.{Trit}
use Rattle.ca_flat.specs.Chip.{Chip, IsChip}
use Rattle.ca_lanes.specs.Plane.{lane_of}
use Rattle.ca_lanes.specs.Choice.{choices_of}
use Rattle.ca_lanes.specs.Netlist.{IsOrder, AreInstancesOf}
use Rattle.ca_lanes.specs.code.Sweep.{HasInputs, IsLoadedTo}
use Rattle.ca_lanes.proofs.sweep.sweep.Given as goal

abbrev pub invariant-loop-place : goal.invariant-loop-place
invariant-loop-place l = record {
  loaded : (chip : Chip) (rank : ℕ → ℕ) (pair : List Trit) (lane : ℕ) → IsChip chip rank → IsOrder chip l.order
      → AreInstancesOf chip l.instances l.goods → lane_of l.fn.planes.loaded lane ≡ true
      → HasInputs chip pair (choices_of l.fn.planes.firsts.items lane) (choices_of l.fn.planes.lasts.items lane)
      → IsLoadedTo chip pair l.order l.place (choices_of l.planes.firsts.items lane) (choices_of l.planes.lasts.items lane);
  lanes : l.planes.loaded ≡ l.fn.planes.loaded;
  count : length l.planes.firsts.items ≡ length l.fn.planes.firsts.items;
}
