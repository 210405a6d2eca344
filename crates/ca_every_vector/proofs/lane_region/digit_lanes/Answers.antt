use Rattle.std.proofs.Common.{◌∙◌, ap, arith, ◌==◌}
use Rattle.ca_planes.specs.Plane.{has_lane}
use Rattle.ca_every_vector.specs.code.Lanes.{number_in}
use Rattle.ca_every_vector.proofs.LaneRegionLemmas.{digit_planes, low_digit, high_digit}
use Rattle.ca_every_vector.proofs.lane_region.digit_lanes.Goals.{then-after-lt6, else-after-lt6}
use Rattle.ca_every_vector.proofs.lane_region.digit_lanes.Goals as goal

pub returns : goal.returns
returns c = λ lane low.
    digit_planes (number_in c.args.block lane) c.args.after c.except.result c.if-after-lt6.one lane low (c.except.ensures lane)
    (elim c.if-after-lt6.branch [
      | then-after-lt6 w ↦ ap (λ plane. has_lane plane lane) w.one-is ∙ w.low_lanes-one.ensures lane low
          ∙ ap (λ d. d == 1) (low_digit c.args.block lane c.args.after w.if-after-lt6.true)
      | else-after-lt6 w ↦ ap (λ plane. has_lane plane lane) w.one-is ∙ w.high_lanes-one.ensures lane low
          ∙ ap (λ d. d == 1) (high_digit c.args.block lane c.args.after low (omega (arith, w.if-after-lt6.false)))
    ])
