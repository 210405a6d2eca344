use Rattle.std.proofs.Common.{ℕ, ◌≡◌, false}
use Rattle.ca_net.specs.State.{value_at}
use Rattle.ca_planes.specs.Plane.{has_lane}
use Rattle.ca_sweep.specs.code.Firsts.{IsLessenedTo}
use Rattle.ca_sweep.specs.code.Lanes.{goods_in, trits_in}
use Rattle.ca_sweep.proofs.lane_run.own_opposite.Given as goal

abbrev pub invariant-loop-output : goal.invariant-loop-output
invariant-loop-output l =
    (lane : ℕ) → has_lane l.seen_here lane ≡ false → (has_lane l.seen lane ≡ false)
    × IsLessenedTo l.chip.core (goods_in l.goods lane) (value_at (trits_in l.ones lane)) l.firsts l.w l.output l.count l.count
