use Rattle.std.proofs.Common.{ℕ, ◌≡◌, ◌≤◌, ◌<◌, subst, true, false, refl}
use Rattle.ca_flat.specs.Chip.{outputs_at}
use Rattle.ca_planes.specs.Plane.{has_lane}
use Rattle.ca_view.specs.Linked.{place_in}
use Rattle.ca_view.specs.Places.{cell_number}
use Rattle.ca_sweep.specs.code.Lanes.{IsUnseen, flips_in, goods_in}
use Rattle.ca_sweep.proofs.LaneFindLemmas.{flips_same, none_unseen, seen_more, single_unseen}
use Rattle.ca_sweep.proofs.lane_find.find_at.Goals as goal

pub returns-then-outputs_at-le1-clause-seen : goal.returns-then-outputs_at-le1-clause-seen
returns-then-outputs_at-le1-clause-seen c =
    let core = c.args.chip.now.core in
    let place_of = place_in c.args.chip.now.ranks in
    let few : outputs_at core c.args.u ≤ 1 =
    subst (λ n. n ≤ 1) (c.outputs_at.ensures) c.if-outputs_at-le1.true in
    let one : (lane : ℕ) → lane < 64 → has_lane c.see-first.result lane ≡ false
    → IsUnseen core place_of (goods_in c.args.goods.now lane) c.args.u (record { first = true; second = false }) =
    λ lane within unset. subst (IsUnseen core place_of (goods_in c.args.goods.now lane) c.args.u)
    (flips_same (flips_in c.flips_of-only.result lane) true false (c.flips_of-only.ensures.first lane within) (c.flips_of-only.ensures.second lane within))
    (c.see-first.ensures.unseen lane within unset) in
    seen_more core place_of (cell_number c.args.chip.now.chip) c.linked.ensures.linked c.args.goods.now c.args.seen.now.items c.put_three.new.seen.items c.args.u
    c.see-first.result 0 c.see-first.result c.requires.placed c.requires.seen c.put_three.ensures
    one
    (λ lane within unset. single_unseen core place_of (goods_in c.args.goods.now lane) c.args.u (record { first = false; second = false }) (record { first = false; second = true }) few refl
    (none_unseen core place_of (goods_in c.args.goods.now lane) c.args.u (record { first = false; second = false }) refl refl))
    (λ lane within unset. single_unseen core place_of (goods_in c.args.goods.now lane) c.args.u (record { first = true; second = false }) (record { first = true; second = true }) few refl
    (one lane within unset))

pub returns-clause-seen : goal.returns-clause-seen
returns-clause-seen c =
    let core = c.args.chip.now.core in
    let place_of = place_in c.args.chip.now.ranks in
    seen_more core place_of (cell_number c.args.chip.now.chip) c.linked.ensures.linked c.args.goods.now c.args.seen.now.items c.put_three-2.new.seen.items c.args.u
    c.see-first.result c.see-second.result c.see-two.result c.requires.placed c.requires.seen c.put_three-2.ensures
    (λ lane within unset. subst (IsUnseen core place_of (goods_in c.args.goods.now lane) c.args.u)
    (flips_same (flips_in c.flips_of-only.result lane) true false (c.flips_of-only.ensures.first lane within) (c.flips_of-only.ensures.second lane within))
    (c.see-first.ensures.unseen lane within unset))
    (λ lane within unset. subst (IsUnseen core place_of (goods_in c.args.goods.now lane) c.args.u)
    (flips_same (flips_in c.flips_of-only-2.result lane) false true (c.flips_of-only-2.ensures.first lane within) (c.flips_of-only-2.ensures.second lane within))
    (c.see-second.ensures.unseen lane within unset))
    (λ lane within unset. subst (IsUnseen core place_of (goods_in c.args.goods.now lane) c.args.u)
    (flips_same (flips_in c.flips_of-two.result lane) true true (c.flips_of-two.ensures.first lane within) (c.flips_of-two.ensures.second lane within))
    (c.see-two.ensures.unseen lane within unset))
