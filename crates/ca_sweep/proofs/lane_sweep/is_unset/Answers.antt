use Rattle.std.proofs.Common.{◌≡◌, ◌+◌, ◌*◌, sym, ◌∙◌, false, true, Bool, refl}
use Rattle.std.specs.Prelude.{not}
use Rattle.ca_planes.specs.Plane.{has_lane, lane_at}
use Rattle.ca_sweep.proofs.LaneFindLemmas.{neither}
use Rattle.ca_sweep.proofs.lane_sweep.is_unset.Goals as goal

not_set : (b : Bool) → not b ≡ true → b ≡ false
not_set true on = let e : false ≡ true = on in absurd cc
not_set false on = refl

pub returns-clause-one : goal.returns-clause-one
returns-clause-one c = λ on.
    (neither (lane_at c.args.seen.now (4 * c.args.u + 1) c.args.lane) (has_lane c.either.result c.args.lane)
    (sym (c.either-any.ensures.lanes c.args.lane) ∙ sym c.has.ensures ∙ not_set c.has.result on)).0

pub returns-clause-other : goal.returns-clause-other
returns-clause-other c = λ on.
    let rest = (neither (lane_at c.args.seen.now (4 * c.args.u + 1) c.args.lane) (has_lane c.either.result c.args.lane)
    (sym (c.either-any.ensures.lanes c.args.lane) ∙ sym c.has.ensures ∙ not_set c.has.result on)).1 in
    (neither (lane_at c.args.seen.now (4 * c.args.u + 2) c.args.lane) (lane_at c.args.seen.now (4 * c.args.u + 3) c.args.lane) (sym (c.either.ensures.lanes c.args.lane) ∙ rest)).0

pub returns-clause-both : goal.returns-clause-both
returns-clause-both c = λ on.
    let rest = (neither (lane_at c.args.seen.now (4 * c.args.u + 1) c.args.lane) (has_lane c.either.result c.args.lane)
    (sym (c.either-any.ensures.lanes c.args.lane) ∙ sym c.has.ensures ∙ not_set c.has.result on)).1 in
    (neither (lane_at c.args.seen.now (4 * c.args.u + 2) c.args.lane) (lane_at c.args.seen.now (4 * c.args.u + 3) c.args.lane) (sym (c.either.ensures.lanes c.args.lane) ∙ rest)).1
