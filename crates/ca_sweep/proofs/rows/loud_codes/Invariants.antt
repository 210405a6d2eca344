use Rattle.std.proofs.Common.{ℕ, ◌≡◌, ◌<◌, false}
use Rattle.std.specs.Prelude.{slice_index}
use Rattle.ca_planes.specs.Plane.{has_lane}
use Rattle.ca_sweep.specs.code.Loud.{FlipsNone}
use Rattle.ca_sweep.proofs.rows.loud_codes.Given as goal

abbrev pub invariant-loop-place : goal.invariant-loop-place
invariant-loop-place l = (k : ℕ) → k < l.place → has_lane l.loud k ≡ false → FlipsNone l.goods (slice_index l.codes k)
