use Rattle.std.proofs.Common.{ℕ, ◌≡◌, ◌<◌}
use Rattle.ca_view.specs.Linked.{IsPlaced, place_in}
use Rattle.ca_view.specs.Places.{cell_number}
use Rattle.ca_sim.proofs.cells.instance_with.Given as goal

abbrev pub invariant-loop-u : goal.invariant-loop-u
invariant-loop-u l = (w : ℕ) → w < l.u → IsPlaced l.chip.core (place_in l.chip.ranks) w
    → (cell_number l.chip.chip) w ≡ l.number → ⊥
