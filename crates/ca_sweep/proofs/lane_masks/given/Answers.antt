use Rattle.std.proofs.Common.{◌≡◌, arith, sym, ◌∙◌, true, false}
use Rattle.ca_net.specs.declared.trit.Trit.TheVariants.{One}
use Rattle.ca_planes.specs.Plane.{has_lane, lane_at}
use Rattle.ca_planes.proofs.BitLemmas.{in_none}
use Rattle.ca_static.specs.LastTable.{last_at}
use Rattle.ca_sweep.proofs.LaneLemmas.{given_true, given_false}
use Rattle.ca_sweep.proofs.lane_masks.given.Goals as goal

pub loop-number-init : goal.loop-number-init
loop-number-init c = record {
  one = λ lane number less masks is. let e : false ≡ true = sym (in_none lane) ∙ is in absurd cc;
  other = λ lane number less masks is below. absurd (omega arith);
}

pub loop-number-preserved : goal.loop-number-preserved
loop-number-preserved c = record {
  one = λ lane number less masks is.
      given_true number c.loop-number.number c.is_one.result (has_lane c.loop-number.found lane) (lane_at c.args.masks.now c.loop-number.number lane)
      (λ k. last_at c.args.table.now k c.args.output ≡ One) (λ on. sym c.last.ensures ∙ c.is_one.ensures.0 on)
      (masks c.loop-number.number (let same = c.requires.count in omega arith)) (c.loop-number.invariant.one lane number less masks)
      (sym (c.with_if-found.ensures lane) ∙ is);
  other = λ lane number less masks is below.
      given_false number c.loop-number.number c.is_one.result (has_lane c.loop-number.found lane) (lane_at c.args.masks.now c.loop-number.number lane)
      (λ k. last_at c.args.table.now k c.args.output ≡ One) (λ ends. c.is_one.ensures.1 (c.last.ensures ∙ ends))
      (masks c.loop-number.number (let same = c.requires.count in omega arith)) (c.loop-number.invariant.other lane number less masks)
      (sym (c.with_if-found.ensures lane) ∙ is) below;
}

pub returns : goal.returns
returns c = record {
  one = λ lane number less masks is. c.loop-number.invariant.one lane number less masks is;
  other = λ lane number less masks is. c.loop-number.invariant.other lane number less masks is (let same = c.requires.count in omega arith);
}
