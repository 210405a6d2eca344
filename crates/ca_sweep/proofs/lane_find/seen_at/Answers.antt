use Rattle.std.proofs.Common.{◌+◌, ◌*◌, ◌&&◌, ap, sym, ◌∙◌}
use Rattle.ca_planes.specs.Plane.{has_lane, lane_at}
use Rattle.ca_sweep.proofs.LaneFindLemmas.{seen_cases, neither}
use Rattle.ca_sweep.proofs.lane_find.seen_at.Goals as goal

pub returns : goal.returns
returns c = λ lane unset.
    let all = neither (has_lane c.both-first.result lane) (has_lane c.either.result lane) (sym (c.either-2.ensures.lanes lane) ∙ unset) in
    let rest = neither (has_lane c.both-second.result lane) (has_lane c.both-two.result lane) (sym (c.either.ensures.lanes lane) ∙ all.1) in
    seen_cases (has_lane c.args.flips.first lane) (has_lane c.args.flips.second lane) c.args.seen.now c.args.w lane
    (ap (λ b. b && lane_at c.args.seen.now (4 * c.args.w + 1) lane) (sym (c.except.ensures lane)) ∙ sym (c.both-first.ensures lane) ∙ all.0)
    (ap (λ b. b && lane_at c.args.seen.now (4 * c.args.w + 2) lane) (sym (c.except-2.ensures lane)) ∙ sym (c.both-second.ensures lane) ∙ rest.0)
    (ap (λ b. b && lane_at c.args.seen.now (4 * c.args.w + 3) lane) (sym (c.both.ensures lane)) ∙ sym (c.both-two.ensures lane) ∙ rest.1)
