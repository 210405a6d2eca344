use Rattle.std.proofs.Common.{◌∙◌, ap, ◌||◌, ◌&&◌}
use Rattle.std.specs.Prelude.{not}
use Rattle.ca_planes.specs.Plane.{has_lane}
use Rattle.ca_sweep.proofs.LaneLemmas.{flipped_bit}
use Rattle.ca_sweep.proofs.lane_values.flipped.Goals as goal

pub returns : goal.returns
returns c = λ lane. flipped_bit (has_lane c.args.plane lane) (has_lane c.args.flips lane) (has_lane c.either.result lane)
    (c.either.ensures.lanes lane ∙ ap (λ b. b || has_lane c.except-2.result lane) (c.except.ensures lane)
    ∙ ap (λ b. (has_lane c.args.plane lane && not (has_lane c.args.flips lane)) || b) (c.except-2.ensures lane))
