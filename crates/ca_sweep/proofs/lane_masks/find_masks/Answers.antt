use Rattle.std.proofs.Common.{◌≡◌, ◌+◌, ◌*◌, ◌^◌, suc, arith, refl, subst, ◌∙◌}
use Rattle.std.specs.Prelude.{slice_index}
use Rattle.std.proofs.lemmas.List.{get_or-set_same, length-set}
use Rattle.std.proofs.Math.Nat.{two-pow-succ}
use Rattle.ca_planes.specs.Plane.{lane_at}
use Rattle.ca_sweep.specs.code.Lanes.{AreMasksTo}
use Rattle.ca_sweep.proofs.LaneLemmas.{masks_none, masks_more}
use Rattle.ca_sweep.proofs.lane_masks.find_masks.Goals as goal

pub loop-pin-init : goal.loop-pin-init
loop-pin-init c = record {
  count = refl;
  room = length-set c.args.masks.now.items 0 18446744073709551615 ∙ c.requires.room;
  masks = λ lane within. masks_none (λ pin. lane_at c.args.ones.now (slice_index c.args.pins.now pin) lane) _ lane within
      (get_or-set_same c.args.masks.now.items 0 18446744073709551615 0 (let room = c.requires.room in omega arith));
}

pub loop-pin-preserved : goal.loop-pin-preserved
loop-pin-preserved c = record {
  count = let was = c.loop-pin.invariant.count in let twice = two-pow-succ c.loop-pin.pin in
      let e : suc c.loop-pin.pin ≡ c.loop-pin.pin + 1 = omega arith in
      subst (λ n. c.loop-pin.count * 2 ≡ 2 ^ n) e (omega (arith, was, twice));
  room = c.part.ensures.room ∙ c.loop-pin.invariant.room;
  masks = λ lane within.
      let bits = λ (pin : _). lane_at c.args.ones.now (slice_index c.args.pins.now pin) lane in
      subst (λ n. AreMasksTo (λ pin. lane_at c.args.ones.now (slice_index c.args.pins.now pin) lane) n c.part.new.masks.items lane)
      (let e : suc c.loop-pin.pin ≡ c.loop-pin.pin + 1 = omega arith in e)
      (masks_more (λ pin. lane_at c.args.ones.now (slice_index c.args.pins.now pin) lane) c.loop-pin.pin _ c.loop-pin.count c.loop-pin.masks.items c.part.new.masks.items lane
      c.loop-pin.invariant.count refl (c.loop-pin.invariant.masks lane within) c.part.ensures);
}
