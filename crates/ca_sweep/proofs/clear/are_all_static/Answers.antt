use Rattle.std.proofs.Common.{below_more, refl}
use Rattle.ca_flat.specs.Chip.{cell_at}
use Rattle.ca_flips.specs.Static.{IsStatic}
use Rattle.ca_view.specs.Linked.{IsPlaced, place_in}
use Rattle.ca_sweep.proofs.clear.are_all_static.Goals as goal

pub loop-u-preserved : goal.loop-u-preserved
loop-u-preserved c =
    below_more (λ w. IsPlaced c.args.chip.now.core (place_in c.args.chip.now.ranks) w → IsStatic (cell_at c.args.chip.now.core w)) c.loop-u.u
    c.loop-u.invariant (c.if-not-is_static_at.ensures refl)
