use Rattle.std.proofs.Common.{◌+◌, arith, below_more}
use Rattle.ca_flat.specs.Chip.{inputs_at, outputs_at, net_of}
use Rattle.ca_view.specs.Linked.{IsPlaced, place_in}
use Rattle.ca_sweep.specs.code.Pinned.{ArePinsMarked}
use Rattle.ca_sweep.proofs.pinned.pinned_nets.Goals as goal

pub loop-u-preserved : goal.loop-u-preserved
loop-u-preserved c = record {
  marked = below_more (λ u. IsPlaced c.args.chip.now.core (place_in c.args.chip.now.ranks) u
      → ArePinsMarked c.args.chip.now.core u (inputs_at c.args.chip.now.core u + outputs_at c.args.chip.now.core u) c.mark_pins.new.marks.items) c.loop-u.u
      (λ u less placed pin below. c.mark_pins.ensures.kept (net_of c.args.chip.now.core u pin) (c.loop-u.invariant.marked u less placed pin below))
      c.mark_pins.ensures.marked;
  room = c.mark_pins.ensures.room;
}

pub returns-clause-marked : goal.returns-clause-marked
returns-clause-marked c = λ u pin placed below.
    let known = placed.known in
    let count = c.instances-u-end.ensures in
    let end = c.loop-u-test.false in
    c.loop-u.invariant.marked u (omega arith) placed pin below
