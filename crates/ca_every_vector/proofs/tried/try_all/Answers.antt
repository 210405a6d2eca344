use Rattle.std.proofs.Common.{◌≤◌, ◌^◌, ◌+◌, ℕ, length, ap, subst, arith, List}
use Rattle.ca_every_vector.specs.code.Region.{IsTried, IsTriedAt, IsTriedTo}
use Rattle.ca_every_vector.proofs.MaskLemmas.{more_none, more_then}
use Rattle.ca_every_vector.proofs.VectorLemmas.{vector_count}
use Rattle.ca_every_vector.proofs.TriedLemmas.{all_then, all_with, tried_all, tried_more}
use Rattle.ca_every_vector.proofs.tried.try_all.Goals as goal

pub loop-number-init : goal.loop-number-init
loop-number-init c = record {
  tried = λ k d low number less. absurd (omega arith);
  more = more_none c.args.masks.now;
  nets = c.requires.nets;
  within = c.requires.within;
  rest = c.requires.rest;
}

pub loop-number-preserved : goal.loop-number-preserved
loop-number-preserved c =
    let core = c.args.chip.now.core in
    let inputs = c.args.region.now.inputs.items in
    let old = c.loop-number.masks in
    let new = c.try_number.new.masks in
    let number = c.loop-number.number in
    record {
      tried = all_with (IsTriedTo c.args.chip.now.core c.args.region.now.inputs.items c.loop-number.number c.loop-number.masks)
          (IsTriedAt c.args.chip.now.core c.args.region.now.inputs.items c.loop-number.number c.try_number.new.masks)
          (IsTriedTo c.args.chip.now.core c.args.region.now.inputs.items (c.loop-number.number + 1) c.try_number.new.masks) c.args.region.now.fresh.items
          (λ u before here. tried_more core inputs number u old new c.in_ok-try_number.ensures.more before here) c.loop-number.invariant.tried c.in_ok-try_number.ensures.tried;
      more = more_then c.args.masks.now c.loop-number.masks c.try_number.new.masks c.loop-number.invariant.more c.in_ok-try_number.ensures.more;
      nets = c.in_ok-try_number.ensures.nets;
      within = c.in_ok-try_number.ensures.within;
      rest = c.in_ok-try_number.ensures.rest;
    }

pub returns-clause-tried : goal.returns-clause-tried
returns-clause-tried c =
    let core = c.args.chip.now.core in
    let inputs = c.args.region.now.inputs.items in
    all_then (IsTriedTo c.args.chip.now.core c.args.region.now.inputs.items c.loop-number.number c.loop-number.masks) (IsTried c.args.chip.now.core c.loop-number.masks)
    c.args.region.now.fresh.items
    (λ u tried. tried_all core inputs c.loop-number.number u c.loop-number.masks c.requires.region.inputs_are.known
    (let past = c.loop-number-test.false in let e = ap (λ (list : List ℕ). length list) c.as_slice-inputs.ensures.value in
    let k = vector_count (length c.as_slice-inputs.result.now) (let f = c.requires.region.inputs_are.few in omega arith) in
    subst (λ n. 2 ^ n ≤ c.loop-number.number) e (omega arith)) tried) c.loop-number.invariant.tried
