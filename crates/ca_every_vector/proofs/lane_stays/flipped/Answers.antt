use Rattle.std.proofs.Common.{◌^◌, ◌-◌, ◌∙◌, ap, sym}
use Rattle.ca_planes.specs.Plane.{has_lane}
use Rattle.ca_planes.specs.Trits.{trit_in}
use Rattle.ca_planes.proofs.BitLemmas.{in_all}
use Rattle.ca_sweep.specs.Seen.{flipped_if}
use Rattle.ca_every_vector.proofs.LaneSpreadLemmas.{opposite_for}
use Rattle.ca_every_vector.proofs.lane_stays.flipped.Goals as goal

pub returns-then-flip : goal.returns-then-flip
returns-then-flip c = λ lane low.
    opposite_for (has_lane c.args.value.zero lane) (has_lane c.args.value.one lane) (has_lane (2 ^ 64 - 1) lane) (has_lane c.either.result lane) (has_lane c.except.result lane)
    (in_all lane low) (c.except.ensures lane) (c.either.ensures.lanes lane)
    ∙ ap (λ f. flipped_if f (trit_in c.args.value lane)) (sym c.if-flip.true)
