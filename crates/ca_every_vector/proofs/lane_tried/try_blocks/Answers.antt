use Rattle.std.proofs.Common.{◌≤◌, ◌+◌, ◌*◌, ◌^◌, ℕ, List, ap, length, arith, subst}
use Rattle.ca_every_vector.specs.code.Lanes.{IsTriedInLanes}
use Rattle.ca_every_vector.specs.code.Region.{IsTried, IsTriedTo}
use Rattle.ca_every_vector.proofs.LaneTriedLemmas.{block_more}
use Rattle.ca_every_vector.proofs.MaskLemmas.{more_none, more_then}
use Rattle.ca_every_vector.proofs.TriedLemmas.{all_then, all_with, tried_all}
use Rattle.ca_every_vector.proofs.lane_tried.try_blocks.Goals as goal

pub loop-block-init : goal.loop-block-init
loop-block-init c = record {
  tried = λ k d low number none. absurd (omega arith);
  more = more_none c.args.masks.now;
  nets = c.requires.nets;
  other_nets = c.requires.other_nets;
  within = c.requires.within;
  rest = c.requires.rest;
  room = c.requires.room;
}

pub loop-block-preserved : goal.loop-block-preserved
loop-block-preserved c =
    let core = c.args.chip.now.core in
    let inputs = c.args.region.now.inputs.items in
    let block = c.loop-block.block in
    let old = c.loop-block.masks in
    let new = c.try_block.new.masks in
    let done = c.in_ok-known.ensures in
    record {
      tried = all_with (IsTriedTo core inputs (64 * block) old) (IsTriedInLanes core inputs block new) (IsTriedTo core inputs (64 * (block + 1)) new) c.args.region.now.fresh.items
          (λ u before here. block_more core inputs block u old new done.more before here) c.loop-block.invariant.tried (done.tried c.if-not-known.false);
      more = more_then c.args.masks.now old new c.loop-block.invariant.more done.more;
      nets = done.nets;
      other_nets = done.other_nets;
      within = done.within;
      rest = done.rest;
      room = done.room;
    }

pub returns-clause-tried : goal.returns-clause-tried
returns-clause-tried c = λ is.
    let core = c.args.chip.now.core in
    let inputs = c.args.region.now.inputs.items in
    let end = 64 * c.loop-block.block in
    all_then (IsTriedTo core inputs (64 * c.loop-block.block) c.loop-block.masks) (IsTried core c.loop-block.masks) c.args.region.now.fresh.items
    (λ u tried. tried_all core inputs (64 * c.loop-block.block) u c.loop-block.masks c.requires.region.inputs_are.known
    (let past = c.loop-block-test.false in let enough = c.block_count-block-end.ensures.enough in
    let e = ap (λ (list : List ℕ). length list) c.as_slice-inputs.ensures.value in
    subst (λ n. 2 ^ n ≤ 64 * c.loop-block.block) e (omega arith)) tried) c.loop-block.invariant.tried
