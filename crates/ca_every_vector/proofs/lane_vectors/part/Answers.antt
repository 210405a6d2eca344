use Rattle.std.proofs.Common.{◌≡◌, ◌-◌, ◌+◌, arith, refl, subst, ◌∙◌, ap, ◌&&◌}
use Rattle.std.proofs.lemmas.List.{get_or_default}
use Rattle.ca_planes.specs.Plane.{has_lane}
use Rattle.ca_every_vector.proofs.LaneLemmas.{AreHalvedFrom, halved_none, halved_more, halved_all}
use Rattle.ca_every_vector.proofs.lane_vectors.part.Goals as goal

pub loop-back-init : goal.loop-back-init
loop-back-init c =
    subst (λ n. AreHalvedFrom c.args.zero c.args.one c.args.count n c.args.masks.now.items c.args.masks.now.items) (let e : c.args.count ≡ c.args.count - 0 = omega arith in e)
    (halved_none c.args.zero c.args.one c.args.count c.args.masks.now.items)

pub loop-back-preserved : goal.loop-back-preserved
loop-back-preserved c =
    let from = c.args.count - 1 - c.loop-back.back in
    let less = c.loop-back-test.true in
    let mask_is = c.index-mask.ensures ∙ get_or_default c.loop-back.masks.items (c.args.count - 1 - c.loop-back.back) c.index-mask.result.now 0
    (let room = c.loop-back.invariant.room in let enough = c.requires in omega arith) in
    let so_far = subst (λ n. AreHalvedFrom c.args.zero c.args.one c.args.count n c.args.masks.now.items c.loop-back.masks.items)
    (let e : c.args.count - c.loop-back.back ≡ c.args.count - 1 - c.loop-back.back + 1 = omega arith in e) c.loop-back.invariant in
    halved_more c.args.zero c.args.one c.args.count from (c.args.count - (c.loop-back.back + 1)) c.both.result c.both-in-loop-back.result c.args.masks.now.items c.loop-back.masks.items _ _
    (let e : c.args.count - 1 - c.loop-back.back ≡ c.args.count - (c.loop-back.back + 1) = omega arith in e) (omega arith) c.requires so_far
    (λ lane. c.both.ensures lane ∙ ap (λ p. has_lane p lane && has_lane c.args.one lane) mask_is)
    (λ lane. c.both-in-loop-back.ensures lane ∙ ap (λ p. has_lane p lane && has_lane c.args.zero lane) mask_is) refl refl

pub returns : goal.returns
returns c =
    let end = subst (λ n. AreHalvedFrom c.args.zero c.args.one c.args.count n c.args.masks.now.items c.loop-back.masks.items)
    (let e : c.args.count - c.loop-back.back ≡ 0 = omega arith in e) c.loop-back.invariant in
    halved_all c.args.zero c.args.one c.args.count c.args.masks.now.items c.loop-back.masks.items end
