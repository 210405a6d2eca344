use Rattle.std.proofs.Common.{ℕ, ◌≡◌, ◌∙◌, ◌<◌, ◌+◌, ◌*◌, ◌^◌, suc, refl, ap, sym, subst, arith}
use Rattle.std.proofs.Math.Nat.{two-pow-succ}
use Rattle.std.proofs.lemmas.List.{length-set}
use Rattle.ca_flat.specs.Chip.{net_of, inputs_at}
use Rattle.ca_flat.specs.Pair.{values_from}
use Rattle.ca_sweep.specs.code.Changes.{IsNumberOf}
use Rattle.ca_sweep.proofs.NumberLemmas.{IsNumberTo, number_all, number_none}
use Rattle.ca_sweep.proofs.LaneLemmas.{small_powers}
use Rattle.ca_every_vector.specs.code.Lanes.{values_of}
use Rattle.ca_every_vector.proofs.LaneLemmas.{masks_of_more}
use Rattle.ca_every_vector.proofs.lane_vectors.find_masks.Goals as goal

pub loop-pin-init : goal.loop-pin-init
loop-pin-init c = record {
  count = refl;
  room = length-set c.args.masks.now.items 0 18446744073709551615 ∙ c.requires.room;
  masks = λ k lane less low has. subst (IsNumberTo (λ pin. values_of c.args.values.now lane (net_of c.args.chip.now.core c.args.w pin)) 0) (let e : 0 ≡ k = omega arith in e)
      (number_none (λ pin. values_of c.args.values.now lane (net_of c.args.chip.now.core c.args.w pin)));
}

pub loop-pin-preserved : goal.loop-pin-preserved
loop-pin-preserved c =
    let core = c.args.chip.now.core in
    record {
      count = let was = c.loop-pin.invariant.count in let twice = two-pow-succ c.loop-pin.pin in
          let e : suc c.loop-pin.pin ≡ c.loop-pin.pin + 1 = omega arith in
          subst (λ n. c.loop-pin.count * 2 ≡ 2 ^ n) e (omega (arith, was, twice));
      room = c.part.ensures.room ∙ c.loop-pin.invariant.room;
      masks = masks_of_more (λ lane pin. values_of c.args.values.now lane (net_of core c.args.w pin)) c.loop-pin.pin c.lanes_with-zero.result c.lanes_with-one.result c.loop-pin.count
          c.loop-pin.masks.items c.part.new.masks.items
          (λ lane low has. ap (values_of c.args.values.now lane) (sym c.pin_net.ensures) ∙ sym (c.get-value.ensures lane) ∙ (c.lanes_with-zero.ensures lane low).0 has)
          (λ lane low has. ap (values_of c.args.values.now lane) (sym c.pin_net.ensures) ∙ sym (c.get-value.ensures lane) ∙ (c.lanes_with-one.ensures lane low).0 has)
          c.loop-pin.invariant.masks c.part.ensures;
    }

pub part-requires : goal.part-requires
part-requires c =
    let few = c.linked.ensures.nets.few_pins c.args.w c.requires.placed.known in
    let less = c.loop-pin-test.true in
    let end = c.inputs_at-pin-end.ensures in
    let was = c.loop-pin.invariant.count in
    let room = c.loop-pin.invariant.room in
    let twice = two-pow-succ c.loop-pin.pin in
    let small = small_powers (suc c.loop-pin.pin) (omega arith) in
    omega arith

pub returns-clause-masks : goal.returns-clause-masks
returns-clause-masks c = λ number lane less low has.
    let core = c.args.chip.now.core in
    let all : c.loop-pin.pin ≡ inputs_at core c.args.w = let past = c.loop-pin-test.false in let e = c.inputs_at-pin-end.ensures in omega arith in
    let value = λ (pin : ℕ). values_of c.args.values.now lane (net_of core c.args.w pin) in
    let to = c.loop-pin.invariant.masks number lane
    (subst (λ n. number < n) (sym (c.loop-pin.invariant.count ∙ ap (λ p. 2 ^ p) all)) less) low has in
    subst (λ n. IsNumberOf n (values_from (λ pin. values_of c.args.values.now lane (net_of core c.args.w pin)) 0 n) number) all
    (number_all (λ pin. values_of c.args.values.now lane (net_of core c.args.w pin)) c.loop-pin.pin number to)
