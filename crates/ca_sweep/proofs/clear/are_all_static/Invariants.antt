use Rattle.std.proofs.Common.{ℕ, ◌<◌}
use Rattle.ca_flat.specs.Chip.{cell_at}
use Rattle.ca_flips.specs.Static.{IsStatic}
use Rattle.ca_view.specs.Linked.{IsPlaced, place_in}
use Rattle.ca_sweep.proofs.clear.are_all_static.Given as goal

abbrev pub invariant-loop-u : goal.invariant-loop-u
invariant-loop-u l = (w : ℕ) → w < l.u → IsPlaced l.chip.core (place_in l.chip.ranks) w → IsStatic (cell_at l.chip.core w)
