use Rattle.std.proofs.Common.{◌≡◌, ℕ, take}
use Rattle.std.specs.List.{list_any}
use Rattle.ca_lanes.specs.Plane.{lane_of}
use Rattle.ca_lanes.specs.code.Allowed.{lanes_of, is_row_allowed}
use Rattle.ca_lanes.proofs.screen.suspect_lanes.Given as goal

abbrev pub invariant-loop-place : goal.invariant-loop-place
invariant-loop-place l = (lane : ℕ) → lane_of l.found lane
    ≡ list_any (is_row_allowed (lanes_of l.firsts lane) (lanes_of l.lasts lane)) (take l.place l.rows)
