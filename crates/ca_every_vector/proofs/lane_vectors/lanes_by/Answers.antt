use Rattle.std.proofs.Common.{◌≡◌, ◌∙◌, true, false, inl, inr, sym, ap, arith}
use Rattle.std.proofs.lemmas.List.{get_or_default}
use Rattle.ca_flat.specs.Chip.{inputs_at}
use Rattle.ca_planes.specs.Plane.{has_lane}
use Rattle.ca_planes.proofs.BitLemmas.{in_none}
use Rattle.ca_sweep.proofs.LaneLemmas.{small_powers}
use Rattle.ca_every_vector.specs.code.Lanes.{values_of}
use Rattle.ca_every_vector.proofs.GivenLemmas.{given_by}
use Rattle.ca_every_vector.proofs.LaneLemmas.{both_true, one_true}
use Rattle.ca_every_vector.proofs.lane_vectors.lanes_by.Goals as goal

pub loop-number-init : goal.loop-number-init
loop-number-init c = λ lane low has. let e : false ≡ true = sym (in_none lane) ∙ has in absurd cc

pub loop-number-preserved : goal.loop-number-preserved
loop-number-preserved c = λ lane low has. elim (one_true _ _ (sym (c.either-lanes.ensures.lanes lane) ∙ has)) [
  | inl before ↦ c.loop-number.invariant lane low before
  | inr here ↦
      let parts = both_true (has_lane c.index-mask.result.now lane) (has_lane c.lanes_ended-ended.result lane) (sym (c.both.ensures lane) ∙ here) in
      let end = c.find_masks-count.ensures.count in
      let less = c.loop-number-test.true in
      let few = c.linked.ensures.nets.few_pins c.args.w c.requires.placed.known in
      let small = small_powers (inputs_at c.args.chip.now.core c.args.w) (omega arith) in
      given_by c.args.chip.now.core c.args.w (values_of c.args.values.now lane) c.loop-number.number
      (c.find_masks-count.ensures.masks c.loop-number.number lane (omega arith) low
      (sym (ap (λ p. has_lane p lane) (c.index-mask.ensures ∙ get_or_default c.find_masks-count.new.masks.items c.loop-number.number c.index-mask.result.now 0
      (let room = c.find_masks-count.ensures.room in omega arith))) ∙ parts.0))
      c.args.table.now c.requires.table (c.lanes_ended-ended.ensures lane low parts.1)
]

pub index-mask-requires : goal.index-mask-requires
index-mask-requires c =
    let few = c.linked.ensures.nets.few_pins c.args.w c.requires.placed.known in
    let small = small_powers (inputs_at c.args.chip.now.core c.args.w) (omega arith) in
    let end = c.find_masks-count.ensures.count in
    let room = c.find_masks-count.ensures.room in
    let less = c.loop-number-test.true in
    omega arith
